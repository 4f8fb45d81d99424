-- The model finished in the lent slices: what is answered, and what the slices hold.
use Prim.{Unit, tt}
use Rattle.std.specs.Prelude.{◌≡◌, ℕ, Option, Some, None, Result, Ok, Err}
use Rattle.model.specs.Finished.{Finished, unknown, known, finished_of, Peopled}
use Rattle.model.specs.Fold.{State}
use Rattle.model.specs.Lent.{Lent, room_of, no_records, holding, empty_model}
use Rattle.model.specs.declared.room.Room.{Room}
use Rattle.building.specs.declared.sites.Counts.{Counts}
use Rattle.building.specs.Holds.{records_in, sizes_of, Holds}
use Rattle.finishing.specs.declared.finished.Unknown.{Unknown}

abbrev pub answer_of : Finished → Result (Unit {0}) Unknown
answer_of (unknown place) = Err (record { place = place })
answer_of (known m) = Ok tt

-- all zeros where there is an unknown residue
abbrev pub left_by : Lent → Finished → Lent
left_by l (unknown place) = holding l empty_model
left_by l (known m) = holding l m

-- how many chains stay, of those counted
abbrev pub chains_kept : Result (Unit {0}) Unknown → Counts → ℕ
chains_kept (Err e) c = 0
chains_kept (Ok u) c = c.chains

-- of any model that the slices and counts held, with an atom to each residue: the answer is that of the finished model, and it is what they hold
abbrev pub Ends : Lent → Counts → Result (Unit {0}) Unknown → Lent → Type 0
Ends l c r after =
    (st : State) → Holds (records_in l) (room_of l) c st → Peopled st → (r ≡ answer_of (finished_of st)) × (after ≡ left_by l (finished_of st))

-- ---- by the first unknown residue's place, from 1, if there is one

-- how many records stay
abbrev pub kept_by : Option ℕ → Counts → Room
kept_by None c = sizes_of c
kept_by (Some place) c = no_records

abbrev pub finish_by : Option ℕ → Result (Unit {0}) Unknown
finish_by None = Ok tt
finish_by (Some place) = Err (record { place = place })
