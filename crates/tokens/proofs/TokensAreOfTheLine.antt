-- A token has no byte that its line has not: trimming only takes bytes away, and each byte of the text is added to the token so far or passed over.
use mathlib.Core.Path.{◌≡◌, refl}
use mathlib.Core.Logic.{◌⊎◌, inl, inr}
use mathlib.Core.Bool.{Bool, true, false, cond}
use mathlib.Core.List.Memᴰ
use mathlib.Core.List.{List, [], ◌∷◌, ◌++◌, Memᴰ}
use Prim.Native.Nat.{ℕ, zero, suc}
use lib.Dec.{eqb}
use lib.ListN.{length, get_or}
use Rattle.ascii.specs.Bytes.{byte, first}
use Rattle.tokens.specs.declared.tokenize.Act.{Act}
use Rattle.tokens.specs.declared.tokenize.Act.TheVariants.{Add, End, Turn}
use Rattle.tokens.specs.Kinds.{is_blank}
use Rattle.tokens.specs.Trim.{trim_start, keep, trim_end, trim}
use Rattle.tokens.specs.Tokens.{act_of, by_act, ended, scan, tokens_from, tokens_of, token_at}

-- each byte of s is one of the line
abbrev pub BytesOf : List ℕ → List ℕ → Type 0
BytesOf line s = (b : ℕ) → Memᴰ b s → Memᴰ b line

none_of : (line : List ℕ) → BytesOf line []
none_of line b d = absurd (Memᴰ.not-nil d)

one_more : (line s : List ℕ) (b : ℕ) → BytesOf line s → Memᴰ b line → BytesOf line (s ++ b ∷ [])
one_more line s b h k c d = go (Memᴰ.append_cases s d)
  where
    go : Memᴰ c s ⊎ Memᴰ c (b ∷ []) → Memᴰ c line
    go (inl m) = h c m
    go (inr m) = Memᴰ.cast (Memᴰ.eq_of_singleton m) k

-- ---- trimming
start_of : (s : List ℕ) → BytesOf s (trim_start s)
unfolding trim_start
start_of [] b d = d
start_of (c ∷ s) b d = go (is_blank c) (start_of s b) d
  where
    go : (t : Bool) → (Memᴰ b (trim_start s) → Memᴰ b s) → Memᴰ b (cond t (trim_start s) (c ∷ s)) → Memᴰ b (c ∷ s)
    go true r m = Memᴰ.tail (r m)
    go false r m = m

kept_of : (c : ℕ) (s t : List ℕ) → BytesOf s t → BytesOf (c ∷ s) (keep c t)
kept_of c s [] h b d = go (is_blank c) d
  where
    go : (t : Bool) → Memᴰ b (cond t [] (c ∷ [])) → Memᴰ b (c ∷ s)
    go true m = absurd (Memᴰ.not-nil m)
    go false m = Memᴰ.head (Memᴰ.eq_of_singleton m)
kept_of c s (x ∷ t) h b d = go (Memᴰ.cases_cons d)
  where
    go : (b ≡ c) ⊎ Memᴰ b (x ∷ t) → Memᴰ b (c ∷ s)
    go (inl e) = Memᴰ.head e
    go (inr m) = Memᴰ.tail (h b m)

end_of : (s : List ℕ) → BytesOf s (trim_end s)
unfolding trim_end
end_of [] b d = d
end_of (c ∷ s) b d = kept_of c s (trim_end s) (end_of s) b d

-- ---- the tokens
module _ (line : List ℕ) where
  abbrev AllOf : List (List ℕ) → Type 0
  AllOf ts = (k : ℕ) → BytesOf line (get_or ts k [])

  ended_of : (token : List ℕ) (ts : List (List ℕ)) → BytesOf line token → AllOf ts → AllOf (ended token ts)
  ended_of [] ts h f k = f k
  ended_of (c ∷ cs) ts h f zero = h
  ended_of (c ∷ cs) ts h f (suc k) = f k

  scan_of : (s : List ℕ) (q : ℕ) (token : List ℕ) → BytesOf line s → BytesOf line token → AllOf (scan q token s)
  unfolding scan
  scan_of [] q token g h = ended_of token [] h (λ k. none_of line)
  scan_of (b ∷ s) q token g h =
      let later : BytesOf line s = λ c m. g c (Memᴰ.tail m) in
      go (act_of q (length token) b) (scan_of s q (token ++ b ∷ []) later (one_more line token b h (g b (Memᴰ.head refl))))
      (ended_of token (scan q [] s) h (scan_of s q [] later (none_of line))) (λ r. scan_of s r token later h)
    where
      go :
          (a : Act) → AllOf (scan q (token ++ b ∷ []) s) → AllOf (ended token (scan q [] s)) → ((r : ℕ) → AllOf (scan r token s))
          → AllOf (by_act a (scan q (token ++ b ∷ []) s) (ended token (scan q [] s)) (λ r. scan r token s))
      go Add add end turn = add
      go End add end turn = end
      go (Turn r) add end turn = turn r

  tokens_of_lem : AllOf (tokens_of line)
  unfolding tokens_of
  tokens_of_lem = go (eqb (first (trim line)) (byte "#"))
    where
      go : (t : Bool) → AllOf (cond t [] (tokens_from (trim line)))
      go true = λ k. none_of line
      go false = scan_of (trim line) 0 [] (λ b m. start_of line b (end_of (trim_start line) b m)) (none_of line)

  -- ---- the theorem
  pub tokens_are_of_the_line : (k : ℕ) → BytesOf line (token_at line k)
  unfolding token_at
  tokens_are_of_the_line k = tokens_of_lem k
