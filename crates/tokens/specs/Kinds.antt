-- What a byte is to the tokenizer: tab and space are blanks, " and ' are quotes, every other byte is plain.
use Rattle.std.specs.Prelude.{ℕ, Bool, true, false, ◌||◌, cond, eqb}
use Rattle.ascii.specs.Bytes.{byte}
use Rattle.tokens.specs.declared.kinds.Kind.{Kind}
use Rattle.tokens.specs.declared.kinds.Kind.TheVariants.{Blank, Quote, Plain}

abbrev pub kind_of : ℕ → Kind
kind_of b = cond (eqb b (byte "\t") || eqb b (byte " ")) Blank (cond (eqb b (byte "\"") || eqb b (byte "'")) Quote Plain)

abbrev pub blank : Kind → Bool
blank Blank = true
blank Quote = false
blank Plain = false

abbrev pub plain : Kind → Bool
plain Blank = false
plain Quote = false
plain Plain = true

abbrev pub is_blank : ℕ → Bool
is_blank b = blank (kind_of b)

abbrev pub is_plain : ℕ → Bool
is_plain b = plain (kind_of b)
