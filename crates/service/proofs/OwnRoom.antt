-- Records of 64 chains, 512 residues and 1,024 atoms have that room: each is within the sizes of document 01.
use mathlib.Core.Path.{◌≡◌, ap, ◌∙◌}
use mathlib.Core.List.{List}
use Prim.Native.Nat.{ℕ, min}
use lib.ListN.{length}
use Rattle.rows.specs.declared.settings.Settings.{Settings}
use Rattle.model.specs.Lent.{Lent, room_of}
use Rattle.model.specs.declared.room.Room.{Room}
use Rattle.std.specs.Prelude.{Result}
use Rattle.refusals.specs.declared.reasons.Refusal.{Refusal}
use Rattle.results.specs.declared.answers.Served.{Served}
use Rattle.service.specs.Serving.{own_room, serve_of, answer_of, written_to, Serves, ServesOwn}

pub own_room_lem : (l : Lent)
    → length l.chains ≡ 64
    → length l.residue_keys ≡ 512 → length l.residue_names ≡ 512 → length l.residue_codes ≡ 512 → length l.residue_categories ≡ 512 → length l.residue_positions ≡ 512
    → length l.atom_keys ≡ 1024 → length l.atom_names ≡ 1024 → length l.elements ≡ 1024 → length l.positions ≡ 1024 → length l.occupancies ≡ 1024
    → room_of l ≡ own_room
unfolding room_of
own_room_lem l chains keys names codes categories places atoms atom_names elements positions occupancies = λ i. record {
  chains = min 4096 (chains i);
  residues = min 65536 (min (keys i) (min (names i) (min (codes i) (min (categories i) (places i)))));
  atoms = min 1048576 (min (atoms i) (min (atom_names i) (min (elements i) (min (positions i) (occupancies i)))));
}

pub own_served : (settings : Settings) (l : Lent) {after : Lent} {text out : List ℕ} {answer : Result Served Refusal} {bytes : List ℕ} → room_of l ≡ own_room → Serves settings l text out answer after bytes → ServesOwn settings text out answer bytes
own_served settings l {after} {text} {out} room s = record {
  answered = s.answered ∙ ap (λ (r : Room). answer_of (serve_of settings r (length out) text)) room;
  written = s.written ∙ ap (λ (r : Room). written_to out (serve_of settings r (length out) text)) room;
}
