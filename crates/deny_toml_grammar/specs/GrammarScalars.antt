-- The grammar of unquoted values: booleans, numbers and dates.
use Rattle.std.specs.Prelude.{ℕ, ℤ, ◌+◌, ◌-◌, ◌*◌, ◌≤◌, ◌≡◌, Bool, true, false, List, [], ◌∷◌, ◌++◌, codes, Some, ◌⊎◌}
use Rattle.std.specs.List.{list_all}
use Rattle.std.specs.Char.{is_digit, is_ascii_digit}
use Rattle.deny_toml_grammar.specs.declared.parts.Scalar.{Scalar}
use Rattle.deny_toml_grammar.specs.declared.parts.Scalar.TheVariants.{Integer, Float, Boolean, Date}
use Rattle.std.specs.Str.Parse.{digits_value}
use Rattle.deny_toml_grammar.specs.Numbers.{signed, digits_alone}

-- digits of a base, with single underscores between them
pub data IsDigits (radix : ℕ) : List ℕ → Type 0 where
  one : (c : ℕ) → is_digit c radix ≡ true → IsDigits radix (c ∷ [])
  more : (c : ℕ) (cs : List ℕ) → is_digit c radix ≡ true → IsDigits radix cs → IsDigits radix (c ∷ cs)
  spaced : (c : ℕ) (cs : List ℕ) → is_digit c radix ≡ true → IsDigits radix cs → IsDigits radix (c ∷ (95 ∷ cs))

-- a decimal number, which has no leading zero
pub data IsDecimal : List ℕ → Type 0 where
  single : (c : ℕ) → is_digit c 10 ≡ true → IsDecimal (c ∷ [])
  several : (c : ℕ) (cs : List ℕ) → (c ≡ 48 → ⊥) → IsDigits 10 (c ∷ cs) → IsDecimal (c ∷ cs)

-- the number that digits write, with underscores between them or not
abbrev pub number_of : ℕ → List ℕ → ℕ
number_of radix cs = digits_value radix (digits_alone cs)

-- a sign, or none, and whether it is a minus
pub data IsSign : List ℕ → Bool → Type 0 where
  none : IsSign [] false
  plus : IsSign (43 ∷ []) false
  minus : IsSign (45 ∷ []) true

-- an integer of 64 bits
pub data IsInteger : List ℕ → ℤ → Type 0 where
  decimal : (sign cs : List ℕ) (negative : Bool) (z : ℤ) → IsSign sign negative → IsDecimal cs
      → signed negative (number_of 10 cs) ≡ Some z → IsInteger (sign ++ cs) z
  hexadecimal : (cs : List ℕ) (z : ℤ) → IsDigits 16 cs → signed false (number_of 16 cs) ≡ Some z
      → IsInteger (48 ∷ (120 ∷ cs)) z
  octal : (cs : List ℕ) (z : ℤ) → IsDigits 8 cs → signed false (number_of 8 cs) ≡ Some z → IsInteger (48 ∷ (111 ∷ cs)) z
  binary : (cs : List ℕ) (z : ℤ) → IsDigits 2 cs → signed false (number_of 2 cs) ≡ Some z → IsInteger (48 ∷ (98 ∷ cs)) z

-- `e` or `E`, a sign or none, and digits
pub data IsExponent : List ℕ → Type 0 where
  exponent : (letter : ℕ) (sign cs : List ℕ) (negative : Bool) → (letter ≡ 101) ⊎ (letter ≡ 69) → IsSign sign negative
      → IsDigits 10 cs → IsExponent (letter ∷ (sign ++ cs))

-- a float: with a fraction, an exponent or both, or infinity, or not a number
pub data IsFloat : List ℕ → Type 0 where
  fraction : (sign whole decimals : List ℕ) (negative : Bool) → IsSign sign negative → IsDecimal whole
      → IsDigits 10 decimals → IsFloat (sign ++ (whole ++ 46 ∷ decimals))
  scaled : (sign whole scale : List ℕ) (negative : Bool) → IsSign sign negative → IsDecimal whole → IsExponent scale
      → IsFloat (sign ++ (whole ++ scale))
  both : (sign whole decimals scale : List ℕ) (negative : Bool) → IsSign sign negative → IsDecimal whole
      → IsDigits 10 decimals → IsExponent scale
      → IsFloat (sign ++ (whole ++ 46 ∷ (decimals ++ scale)))
  infinity : (sign : List ℕ) (negative : Bool) → IsSign sign negative → IsFloat (sign ++ codes "inf")
  not_a_number : (sign : List ℕ) (negative : Bool) → IsSign sign negative → IsFloat (sign ++ codes "nan")

-- two digits that write a number from `low` to `high`
pub data IsTwo (low high : ℕ) : ℕ → ℕ → Type 0 where
  two : (tens ones : ℕ) → is_ascii_digit tens ≡ true → is_ascii_digit ones ≡ true → low ≤ (tens - 48) * 10 + (ones - 48)
      → (tens - 48) * 10 + (ones - 48) ≤ high → IsTwo low high tens ones

-- YYYY-MM-DD, and the text after it
pub data StartsDate (rest : List ℕ) : List ℕ → Type 0 where
  ymd : (a b c d e f g h : ℕ) → IsTwo 0 99 a b → IsTwo 0 99 c d → IsTwo 1 12 e f → IsTwo 1 31 g h
      → StartsDate rest (a ∷ (b ∷ (c ∷ (d ∷ (45 ∷ (e ∷ (f ∷ (45 ∷ (g ∷ (h ∷ rest))))))))))

-- hh:mm:ss, and the text after it
pub data StartsTime (rest : List ℕ) : List ℕ → Type 0 where
  hms : (a b c d e f : ℕ) → IsTwo 0 23 a b → IsTwo 0 59 c d → IsTwo 0 60 e f
      → StartsTime rest (a ∷ (b ∷ (58 ∷ (c ∷ (d ∷ (58 ∷ (e ∷ (f ∷ rest))))))))

-- the fraction of a second, or nothing, and the text after it
pub data IsSecondsFraction (rest : List ℕ) : List ℕ → Type 0 where
  whole : IsSecondsFraction rest rest
  fraction_of_second : (d : ℕ) (ds : List ℕ) → list_all is_ascii_digit (d ∷ ds) ≡ true
      → IsSecondsFraction rest (46 ∷ (d ∷ (ds ++ rest)))

-- nothing, `Z`, or the offset from UTC in hours and minutes
pub data IsOffset : List ℕ → Type 0 where
  local : IsOffset []
  universal : (z : ℕ) → (z ≡ 90) ⊎ (z ≡ 122) → IsOffset (z ∷ [])
  distance : (sign a b c d : ℕ) → (sign ≡ 43) ⊎ (sign ≡ 45) → IsTwo 0 23 a b → IsTwo 0 59 c d
      → IsOffset (sign ∷ (a ∷ (b ∷ (58 ∷ (c ∷ (d ∷ []))))))

-- the byte between a date and a time
pub data IsDivider : ℕ → Type 0 where
  capital : IsDivider 84
  small : IsDivider 116
  blank : IsDivider 32

-- one of the four forms of dates and times
pub data IsDate : List ℕ → Type 0 where
  day : (cs : List ℕ) → StartsDate [] cs → IsDate cs
  moment : (c : ℕ) (cs time_ rest offset : List ℕ) → StartsDate (c ∷ time_) cs → IsDivider c → StartsTime rest time_
      → IsSecondsFraction offset rest → IsOffset offset → IsDate cs
  hour : (cs rest : List ℕ) → StartsTime rest cs → IsSecondsFraction [] rest → IsDate cs

-- a boolean, a number or a date
pub data IsScalar : List ℕ → Scalar → Type 0 where
  true_ : IsScalar (codes "true") (Boolean true)
  false_ : IsScalar (codes "false") (Boolean false)
  integer : (cs : List ℕ) (z : ℤ) → IsInteger cs z → IsScalar cs (Integer z)
  float : (cs : List ℕ) → IsFloat cs → IsScalar cs (Float cs)
  date : (cs : List ℕ) → IsDate cs → IsScalar cs (Date cs)
