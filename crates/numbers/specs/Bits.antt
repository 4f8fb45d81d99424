-- A double's bit pattern: its significand, and how far that is moved up from the smallest double, 2 ^ -1074.
use Rattle.std.specs.Prelude.{ℕ, zero, suc, ◌+◌, ◌/◌, ◌%◌, ◌^◌}

-- the eleven bits of the exponent
abbrev pub exponent_field : ℕ → ℕ
exponent_field bits = bits % 2 ^ 63 / 2 ^ 52

-- a double whose field is 0 is subnormal, and has no leading 1
abbrev pub significand_at : ℕ → ℕ → ℕ
significand_at zero fraction = fraction
significand_at (suc field) fraction = 2 ^ 52 + fraction

abbrev pub exponent_at : ℕ → ℕ
exponent_at zero = 0
exponent_at (suc field) = field

abbrev pub significand_of : ℕ → ℕ
significand_of bits = significand_at (exponent_field bits) (bits % 2 ^ 52)

abbrev pub exponent_of : ℕ → ℕ
exponent_of bits = exponent_at (exponent_field bits)
