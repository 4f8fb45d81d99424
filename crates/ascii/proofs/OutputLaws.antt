-- What becomes of a text and of the buffer, by whether the text fits. A copy that is one byte longer is one store more, behind those that were made.
use mathlib.Core.Path.{◌≡◌, refl, sym, ap, ◌∙◌}
use mathlib.Core.List.{List, [], ◌∷◌, ◌++◌}
use mathlib.Core.Bool.{Bool, true, false, not}
use Prim.Native.Nat.{ℕ, suc, ◌+◌, ◌-◌, ◌≤◌, ◌<◌}
use native.Mathlib.Nat.{add-zero, add-suc, suc-add, add_assoc, le_refl}
use native.Mathlib.Numerals.{add-one}
use native.Mathlib.Omega.{arith}
use lib.Dec.{T, leb, leb→le, nleb→lt}
use lib.ListN.{length, get_or, take, set, length-append}
use lib.Seq.{set_comm, sets, take-suc, take_all, length-take-le}
use borrow.Author.Tests.{le-leb, lt-leb}
use Rattle.std.specs.Prelude.{Ok, Err}
use Rattle.ascii.specs.Output.{Stored, fits, no_room, placed_of, buffer_after}

module _ (buffer : List ℕ) (at : ℕ) (text : List ℕ) where
  pub placed_fits : fits buffer at text ≡ true → placed_of buffer at text ≡ Ok (at + length text)
  unfolding placed_of
  placed_fits e = simp e

  pub placed_not : fits buffer at text ≡ false → placed_of buffer at text ≡ Err (no_room (length text))
  unfolding placed_of
  placed_not e = simp e

  pub after_fits : fits buffer at text ≡ true → buffer_after buffer at text ≡ sets buffer at text
  unfolding buffer_after
  after_fits e = simp e

  pub after_not : fits buffer at text ≡ false → buffer_after buffer at text ≡ buffer
  unfolding buffer_after
  after_not e = simp e

  -- what a function that puts a text has done, where there was room and where there was none
  pub put_whole : {after : List ℕ} {next : ℕ} → fits buffer at text ≡ true → Stored buffer at text after next → (Ok next ≡ placed_of buffer at text) × (after ≡ buffer_after buffer at text)
  put_whole e s = (ap Ok s.place ∙ sym (placed_fits e), s.bytes ∙ sym (after_fits e))

  pub put_nothing : {n : ℕ} → fits buffer at text ≡ false → n ≡ length text → (Err (no_room n) ≡ placed_of buffer at text) × (buffer ≡ buffer_after buffer at text)
  put_nothing e h = (ap (λ (k : ℕ). Err (no_room k)) h ∙ sym (placed_not e), sym (after_not e))

-- the room that is left, asked without the sum
pub room_left : (size at n : ℕ) → at ≤ size → leb n (size - at) ≡ leb (at + n) size
room_left size at n h = go (leb n (size - at)) (leb→le n (size - at)) (nleb→lt n (size - at))
  where
    moved : n ≤ size - at → at + n ≤ size
    moved k = omega arith

    moved_not : size - at < n → size < at + n
    moved_not k = omega arith

    go : (t : Bool) → (T t → n ≤ size - at) → (T (not t) → size - at < n) → t ≡ leb (at + n) size
    go true within beyond = sym (le-leb (at + n) size (moved (within tt)))
    go false within beyond = sym (lt-leb (at + n) size (moved_not (beyond tt)))

-- ---- one text after another
sets_append : (d : List ℕ) (at : ℕ) (s t : List ℕ) → sets (sets d at s) (at + length s) t ≡ sets d at (s ++ t)
sets_append d at [] t = ap (λ (k : ℕ). sets d k t) (add-zero at)
sets_append d at (b ∷ s) t =
    ap (λ (k : ℕ). sets (sets (set d at b) (suc at) s) k t) (add-suc at (length s) ∙ sym (suc-add at (length s)))
    ∙ sets_append (set d at b) (suc at) s t

pub stored_byte : (d : List ℕ) (at b : ℕ) → Stored d at (b ∷ []) (set d at b) (at + 1)
stored_byte d at b = record { bytes = refl; place = refl }

pub stored_append : {d e f : List ℕ} {at i j : ℕ} {s t : List ℕ} → Stored d at s e i → Stored e i t f j → Stored d at (s ++ t) f j
stored_append {d} {e} {f} {at} {i} {j} {s} {t} p q = record {
  bytes = q.bytes ∙ ap (λ (k : ℕ). sets e k t) p.place ∙ ap (λ (l : List ℕ). sets l (at + length s) t) p.bytes ∙ sets_append d at s t;
  place = q.place ∙ ap (λ (k : ℕ). k + length t) p.place ∙ add_assoc at (length s) (length t) ∙ ap (λ (k : ℕ). at + k) (sym (length-append s t));
}

-- a byte behind a text is one store more, and so is a copy that is one byte longer
pub store_more : (d : List ℕ) (at : ℕ) (s : List ℕ) (b : ℕ) → set (sets d at s) (at + length s) b ≡ sets d at (s ++ b ∷ [])
store_more d at s b = sets_append d at s (b ∷ [])

module _ (d : List ℕ) (at : ℕ) (text : List ℕ) (i : ℕ) where
  pub copy_more : i < length text → set (sets d at (take i text)) (at + i) (get_or text i 0) ≡ sets d at (take (i + 1) text)
  copy_more h =
      ap (λ (n : ℕ). set (sets d at (take i text)) (at + n) (get_or text i 0)) (sym (length-take-le i text (omega arith)))
      ∙ store_more d at (take i text) (get_or text i 0)
      ∙ ap (sets d at) (sym (take-suc text i 0 h) ∙ ap (λ (n : ℕ). take n text) (sym (add-one i)))

  pub copy_end : length text ≤ i → sets d at (take i text) ≡ sets d at text
  copy_end h = ap (sets d at) (take_all i text h)

-- ---- a run of bytes stored from the right

-- a store past the run may go first
set_first : (d : List ℕ) (at : ℕ) (s : List ℕ) (j b : ℕ) → at + length s ≤ j → sets (set d j b) at s ≡ set (sets d at s) j b
set_first d at [] j b h = refl
set_first d at (x ∷ s) j b h =
    ap (λ (l : List ℕ). sets l (suc at) s) (set_comm d j at b x (differ at (length s) h))
    ∙ set_first (set d at x) (suc at) s j b (next at (length s) h)
  where
    differ : (a n : ℕ) → a + suc n ≤ j → j ≡ a → ⊥
    differ a n h e = omega arith

    next : (a n : ℕ) → a + suc n ≤ j → suc a + n ≤ j
    next a n h = omega arith

-- so the last byte may
pub sets_last : (d : List ℕ) (at : ℕ) (s : List ℕ) (b : ℕ) → sets (set d (at + length s) b) at s ≡ sets d at (s ++ (b ∷ []))
sets_last d at s b = set_first d at s (at + length s) b (le_refl (at + length s)) ∙ sets_append d at s (b ∷ [])
