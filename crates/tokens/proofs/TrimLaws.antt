-- The library's walk over the blanks at each end is what its definition says.
use mathlib.Core.Path.{◌≡◌, refl, sym, ap, ◌∙◌}
use mathlib.Core.List.{List, [], ◌∷◌, ◌++◌}
use mathlib.Core.Bool.{Bool, true, false, cond}
use Prim.Native.Nat.{ℕ, suc, ◌+◌, ◌-◌, ◌≤◌}
use native.Mathlib.Nat.{sub-zero}
use native.Mathlib.Omega.{arith}
use lib.ListN.{length, take, drop, length-append}
use lib.Seq.{take_all}
use mathlib.Core.List.{reverse, reverse-cons, reverse-reverse}
use Rattle.std.proofs.lemmas.List.{take-append-le}
use Rattle.std.specs.List.{prefix_len}
use Rattle.ascii.proofs.ListLaws.{tail_is}
use Rattle.tokens.specs.Kinds.{is_blank}
use Rattle.tokens.specs.Trim.{trim_start, keep, trim_end, trim}

-- ---- from the start
pub starts : (line : List ℕ) → (prefix_len is_blank line ≤ length line) × (drop (prefix_len is_blank line) line ≡ trim_start line)
unfolding trim_start
starts [] = (omega arith, refl)
starts (b ∷ s) = go (is_blank b) (starts s)
  where
    go :
        (t : Bool) → (prefix_len is_blank s ≤ length s) × (drop (prefix_len is_blank s) s ≡ trim_start s)
        → (cond t (1 + prefix_len is_blank s) 0 ≤ suc (length s)) × (drop (cond t (1 + prefix_len is_blank s) 0) (b ∷ s) ≡ cond t (trim_start s) (b ∷ s))
    go true e = let one : 1 + prefix_len is_blank s ≡ suc (prefix_len is_blank s) = omega arith in rw one (omega (arith, e.0), e.1)
    go false e = (omega arith, refl)

-- ---- from the end
end_more : (s : List ℕ) (b : ℕ) → is_blank b ≡ true → trim_end (s ++ b ∷ []) ≡ trim_end s
unfolding trim_end
end_more [] b h = rw h
end_more (x ∷ s) b h = ap (keep x) (end_more s b h)

keep_some : (x : ℕ) (s : List ℕ) (b : ℕ) → keep x (s ++ b ∷ []) ≡ x ∷ (s ++ b ∷ [])
keep_some x [] b = refl
keep_some x (y ∷ s) b = refl

-- a line whose last byte is no blank
pub end_stop : (s : List ℕ) (b : ℕ) → is_blank b ≡ false → trim_end (s ++ b ∷ []) ≡ s ++ b ∷ []
unfolding trim_end
end_stop [] b h = rw h
end_stop (x ∷ s) b h = ap (keep x) (end_stop s b h) ∙ keep_some x s b

-- of a line that is told from its end
ends_reversed : (r : List ℕ) → (prefix_len is_blank r ≤ length (reverse r)) × (take (length (reverse r) - prefix_len is_blank r) (reverse r) ≡ trim_end (reverse r))
unfolding trim_end
ends_reversed [] = (omega arith, refl)
ends_reversed (b ∷ r) = rw (reverse-cons b r, length-append (reverse r) (b ∷ [])) (go (is_blank b) refl (ends_reversed r))
  where
    s : List ℕ
    s = reverse r

    n : ℕ
    n = prefix_len is_blank r

    go :
        (t : Bool) → is_blank b ≡ t → (n ≤ length s) × (take (length s - n) s ≡ trim_end s)
        → (cond t (1 + n) 0 ≤ length s + 1) × (take (length s + 1 - cond t (1 + n) 0) (s ++ b ∷ []) ≡ trim_end (s ++ b ∷ []))
    go true h e =
        let less : length s + 1 - (1 + n) ≡ length s - n = omega arith in
        (omega (arith, e.0), rw less (take-append-le (length s - n) s (b ∷ []) (omega arith) ∙ e.1 ∙ sym (end_more s b h)))
    go false h e =
        (omega arith, take_all (length s + 1 - 0) (s ++ b ∷ []) (omega (arith, length-append s (b ∷ []))) ∙ sym (end_stop s b h))

pub ends : (line : List ℕ) → (prefix_len is_blank (reverse line) ≤ length line) × (take (length line - prefix_len is_blank (reverse line)) line ≡ trim_end line)
ends line = rw reverse-reverse at (ends_reversed (reverse line))

-- ---- parts of a slice
-- the front of a list, as a slice `&s[0..n]` has it
pub front_is : (n : ℕ) (s : List ℕ) → take (n - 0) (drop 0 s) ≡ take n s
front_is n s = ap (λ (m : ℕ). take m s) (sub-zero n)

-- the part of a line from where it starts to where what is left ends
pub trimmed :
    (line : List ℕ) (start end : ℕ) → let rest = take (length line - start) (drop start line) in
    drop start line ≡ trim_start line → take end rest ≡ trim_end rest → take (end - 0) (drop 0 rest) ≡ trim line
trimmed line start end s e = front_is end (take (length line - start) (drop start line)) ∙ e ∙ ap trim_end (tail_is start line ∙ s)
