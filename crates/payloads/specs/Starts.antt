-- Where the entries of payloads start.
-- Assumes nothing.
use Rattle.std.specs.Prelude.{List, [], ℕ}
use Rattle.answer.specs.Outcome.{Outcome, taken, checked, after}
use Rattle.lists.specs.Lists.{list_at, starts_in, part_checks, whole}
use Rattle.aerosnap.specs.Payloads.{Body, meta, cpu, mmu, list, opaque, body_of, payload}

-- where the entries of a payload start, in the order of their keys; none where it is no list or is refused
abbrev pub starts : Body → List ℕ → List ℕ
starts meta p = []
starts (cpu v) p = []
starts (mmu v) p = []
starts (list d) p = starts_in (list_at d p)
starts opaque p = []

-- the call that reads a payload, where so many places are lent for starts: all of a list's, or none where it has more
abbrev pub kept_of : ℕ → ℕ → ℕ → List ℕ → Outcome (List ℕ)
kept_of have id v p = checked (part_checks p) (after (payload (body_of id v) p) (λ _. taken (whole have (starts (body_of id v) p))))
