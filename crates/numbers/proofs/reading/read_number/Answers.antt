-- The sign is the first byte's, and what follows it is read without it.
-- what the rest is read as is what the text is: r is the answer of either way
use mathlib.Core.Path.{◌≡◌, ap, ◌∙◌}
use mathlib.Core.List.{List}
use Prim.Native.Nat.{ℕ}
use lib.Dec.{eqb}
use Rattle.ascii.specs.Bytes.{first}
use Rattle.ascii.specs.Signs.{after_sign}
use Rattle.std.specs.Prelude.{Result, Float}
use Rattle.numbers.specs.declared.reading.NumberError.{NumberError}
use Rattle.numbers.specs.Grammar.{unsigned, spelling_of}
use Rattle.numbers.specs.Reading.{read_as, number_of}
use Rattle.numbers.proofs.reading.read_number.Goals as goal

spelled : (s : List ℕ) (b : ℕ) (rest : List ℕ) (r : Result Float NumberError) → b ≡ first s → rest ≡ after_sign s → r ≡ read_as (unsigned (eqb b 45) rest) → r ≡ number_of s
unfolding number_of spelling_of
spelled s b rest r B R e = e ∙ ap (λ (l : List ℕ). read_as (unsigned (eqb b 45) l)) R ∙ ap (λ (x : ℕ). read_as (unsigned (eqb x 45) (after_sign s))) B

pub returns-then-unsigned-le-MOST_DIGITS : goal.returns-then-unsigned-le-MOST_DIGITS
returns-then-unsigned-le-MOST_DIGITS c =
    spelled c.args.s.now _ _ _ c.byte_at-negative.ensures c.after_sign-unsigned.ensures c.read_short.ensures

pub returns : goal.returns
returns c =
    spelled c.args.s.now _ _ _ c.byte_at-negative.ensures c.after_sign-unsigned.ensures c.read_unsigned.ensures
