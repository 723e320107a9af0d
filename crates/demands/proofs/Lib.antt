-- Faults: the numbers of faults. FirstFaults: the fault that is named is the first. Demand1 to Demand3: the demands. Examples: P1 to P13. RuledOut: wrong answers.
-- Rings: request 1. Text: requests 2 and 7. Removal: request 3. Tails: request 4. Refusals: request 5. Sheet and Meta: request 6. Together: request 8. Positions: request 9. Shift: request 10. Salvage: request 11. Sizes: request 12. Ready: request 13. Beside: what demands 1 and 2 say of edits beside a card. Once: the proofs that promises fix their answers, of every public function.
pub mod Faults
pub mod FirstFaults
pub mod Demand1
pub mod Demand2
pub mod Demand3
pub mod Examples
pub mod RuledOut
pub mod Rings
pub mod Pointed
pub mod Text
pub mod Removal
pub mod Refusals
pub mod Sheet
pub mod Positions
pub mod Tails
pub mod Meta
pub mod Beside
pub mod Sizes
pub mod Together
pub mod Shift
pub mod Salvage
pub mod Ready
pub mod Once
