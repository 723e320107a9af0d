-- The promise of every public function determines number, place, reading and each byte of lent memory afterwards, refusals too: any two answers that it
-- allows are equal. Here are the proofs of that, crate by crate, each behind the functions that it speaks of. No public function lacks one.
-- Assumes nothing.
use mathlib.Core.Path.{◌≡◌, sym, ◌∙◌}
-- answer: u32 from a refusal; Answer from a fault, from what writes nothing, and from what writes; roomy
pub use Rattle.answer.proofs.Once.{number_of_once, count_answer_once, answered_once, roomy_once}
-- wire: fits; left; tail; u8_at, u16_at, u32_at, u64_at; put_u8, put_u16, put_u32, put_u64, copy
pub use Rattle.wire.proofs.Once.{fits_once, left_once, tail_once, load_once, store_once}
-- utf8: text; is_text
pub use Rattle.utf8.proofs.Once.{text_once, is_text_once}
-- format: block_at, part_at, blob_at, text_at; flag_at
pub use Rattle.format.proofs.Once.{read_once as format-once, flag_once}
-- entries: most_of; closed; cpu_sized; cpu_state; mmu_length; lead_of; lead_at; device_key; key_of, key_at; device_at; entry_at; length_at; device_length
pub use Rattle.entries.proofs.Once.{most_once, closed_once, cpu_sized_once, cpu_state_once, mmu_length_once, lead_once, lead_at_once, device_key_once, key_once, device_once, entry_once, length_once, device_length_once}
-- sorting: arrange
pub use Rattle.sorting.proofs.Once.{arrange_once as sorting-arrange-once}
-- lists: few; check; index; forget; blank; find; find_ordered; arrange
pub use Rattle.lists.proofs.Once.{few_once, check_once as lists-check-once, index_once, forget_once, blank_once, find_once, find-ordered_once, arrange_once}
-- tables: put_rows; put_section
pub use Rattle.tables.proofs.Once.{rows_once, section_once}
-- writer: put_run; put_by_starts; in_order
pub use Rattle.writer.proofs.Once.{run_once, by_starts_once, order_once}
-- dskc: check; controllers; canonical
pub use Rattle.dskc.proofs.Once.{check_once as dskc-check-once, controllers_once, canonical_once as dskc-canonical-once}
-- kinds: form_of; cells, ok; Cell from a number of each width
pub use Rattle.kinds.proofs.Once.{form_of_once, cells_once, ok_once, cell_from_once}
-- messages: said; Reading from a result
pub use Rattle.messages.proofs.Once.{said_once, reading_from_once}
-- aipc: read; write
pub use Rattle.aipc.proofs.Once.{read_once as aipc-read-once, write_once as aipc-write-once}
-- numbers: numbers_of; message_of; read; write; Told from a result
pub use Rattle.numbers.proofs.Once.{numbers_of_once, message_of_once, read_once as numbers-read-once, write_once as numbers-write-once, told_from_once}
-- region: ahead; offset_of; ring_at; check; check_queue; report; Cursors from a result
pub use Rattle.region.proofs.Once.{ahead_once, offset_of_once, ring-at_once, check_once as check-region-once, check_queue_once, report_once, cursors_from_once}
-- rings: reserve; fill; commit; take; Pair and Record, each from a result
pub use Rattle.rings.proofs.Once.{reserve_once, fill_once, commit_once, take_once, pair_from_once, record_from_once}
-- access: parts
pub use Rattle.access.proofs.Once.{parts_once}
-- fields: right_length; judge; field; set; cpu_field; mmu_field; cpu_set; mmu_set
pub use Rattle.fields.proofs.Once.{right_length_once, judge_once, field_once, set_once, cpu_field_once, mmu_field_once, cpu_set_once, mmu_set_once}
-- registers: words; put_words; segment_at; put_segment
pub use Rattle.registers.proofs.Once.{words_once, put_words_once, segment-at_once, put-segment_once}
-- sheet: make_sse; xmm_of; cpu; cpu_over; CpuShown from a result
pub use Rattle.sheet.proofs.Once.{make_sse_once, xmm_of_once, cpu_once, cpu_over_once, cpu_shown_from_once}
-- mmu_sheet: mmu; mmu_over; MmuShown from a result
pub use Rattle.mmu_sheet.proofs.Once.{mmu_once, mmu_over_once, mmu_shown_from_once}
-- payloads: index
pub use Rattle.payloads.proofs.Once.{index_once as payloads-index-once}
-- sections: small; scan; is_list; check_and_find; fits; places_for; noted; divide; index_file
pub use Rattle.sections.proofs.Once.{small_once, scan_once, is_list_once, check_and_find_once, fits_once as sections-fits-once, places_for_once, noted_once, divide_once, index_file_once}
-- cards: move_by; edited_answer; Refused from a fault
pub use Rattle.cards.proofs.Once.{move_by_once, edited_answer_once, refused_from_once}
-- canon: put_between; canon and snapshot: canonical
pub use Rattle.canon.proofs.Once.{canonical_once, put_between_once}
-- salvage and snapshot: salvage; Salvaged from a result
pub use Rattle.salvage.proofs.Once.{salvage_once, salvaged_from_once}
-- edits and snapshot: open; edited, and add_device, add_disk, remove_device, remove_disk, replace_device, which are that of one edit each; added, and add_devices, which is that
pub use Rattle.edits.proofs.Once.{open_once, edited_once, added_once}
-- snapshot: check; sections; devices; disks; cpus; mmus; meta
pub use Rattle.snapshot.proofs.Once.{check_once, sections_once, devices_once, disks_once, cpus_once, mmus_once, meta_once}
-- newcomers: looked_at; put; add_records
pub use Rattle.newcomers.proofs.Once.{looked_at_once, put_once, add_records_once}
-- ready: ready; Readiness from a result
pub use Rattle.ready.proofs.Once.{ready_once, readiness_from_once}
-- cimbrolau: the same calls for C, each law named after its function
pub use Rattle.cimbrolau.proofs.Once.{check_once as cimbrolau-check-once, sections_once as cimbrolau-sections-once, devices_once as cimbrolau-devices-once, disks_once as cimbrolau-disks-once, cpus_once as cimbrolau-cpus-once, mmus_once as cimbrolau-mmus-once, meta_once as cimbrolau-meta-once, canonical_once as cimbrolau-canonical-once, salvage_once as cimbrolau-salvage-once, open_once as cimbrolau-open-once, edit_once as cimbrolau-edit-once, add-devices_once as cimbrolau-add-devices-once, add-devices_of_once as cimbrolau-add-devices-of-once, wrapper_check_once as cimbrolau-wrapper-check-once, controllers_once as cimbrolau-controllers-once, wrapper_canonical_once as cimbrolau-wrapper-canonical-once, message_read_once as cimbrolau-message-read-once, message_write_once as cimbrolau-message-write-once, region_check_once, ring_report_once, ring_reserve_once, ring_fill_once, ring_commit_once, ring-take_once, cpu_field_once as cimbrolau-cpu-field-once, mmu_field_once as cimbrolau-mmu-field-once, cpu_set_once as cimbrolau-cpu-set-once, mmu_set_once as cimbrolau-mmu-set-once, access_once as cimbrolau-access-once, ready_once as cimbrolau-ready-once}

-- A promise that names the value given, as that of each conversion above, fixes it.
pub given_once : {A : Type 0} {x a b : A} → a ≡ x → b ≡ x → a ≡ b
given_once x y = x ∙ sym y
