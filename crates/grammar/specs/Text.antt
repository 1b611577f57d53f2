-- Texts and numbers. A text is a list of bytes; b "void" is the bytes of the word void, and no character above 127 is written so.
use Rattle.std.specs.Prelude.{ℕ, zero, suc, ◌+◌, ◌-◌, ◌*◌, ◌/◌, ◌%◌, Bool, true, false, ◌&&◌, ◌||◌, List, [], ◌∷◌, ◌++◌, drop, ◌==◌, nat_le, nat_lt}
use Rattle.std.proofs.Math.Option.{Option, none, some}
use Prim.Native.Char.{code}
use Prim.Native.String.{String, [] as []ˢ, ◌∷◌ as ◌∷ˢ◌}

abbrev pub Text : Type 0
Text = List ℕ

unfoldable pub b : String → Text
b []ˢ = []
b (c ∷ˢ w) = code c ∷ b w

infix 20 if◌then◌otherwise◌
unfoldable pub if◌then◌otherwise◌ {ℓ} : {A : Type ℓ} → Bool → A → A → A
if true then x otherwise y = x
if false then x otherwise y = y

-- by whether there is a value
unfoldable pub choose {ℓ κ} : {A : Type ℓ} {B : Type κ} → Option A → (A → B) → B → B
choose (some x) f y = f x
choose none f y = y

-- ---------------------------------------------------------------- texts

-- the two texts are equal
unfoldable pub same : Text → Text → Bool
same [] [] = true
same [] (y ∷ t) = false
same (x ∷ s) [] = false
same (x ∷ s) (y ∷ t) = x == y && same s t

-- the first text begins with the second
unfoldable pub starts : Text → Text → Bool
starts t [] = true
starts [] (y ∷ w) = false
starts (x ∷ t) (y ∷ w) = x == y && starts t w

-- one of the bytes is c
unfoldable pub holds : ℕ → Text → Bool
holds c [] = false
holds c (x ∷ t) = c == x || holds c t

-- the text ends with the byte c
unfoldable pub ends : ℕ → Text → Bool
ends c [] = false
ends c (x ∷ []) = x == c
ends c (x ∷ y ∷ t) = ends c (y ∷ t)

-- the longest run of bytes that pass the test, and what comes after it
unfoldable pub run : (ℕ → Bool) → Text → Text
run p [] = []
run p (x ∷ t) = if p x then x ∷ run p t otherwise []

unfoldable pub past : (ℕ → Bool) → Text → Text
past p [] = []
past p (x ∷ t) = if p x then past p t otherwise x ∷ t

-- the texts, with a text between any two
unfoldable pub join : Text → List Text → Text
join w [] = []
join w (t ∷ []) = t
join w (t ∷ u ∷ ts) = t ++ (w ++ join w (u ∷ ts))

-- each byte replaced by a text
unfoldable pub each : (ℕ → Text) → Text → Text
each f [] = []
each f (x ∷ t) = f x ++ each f t

-- after_last w t t is what stands behind the last w of the text t, or t where there is none; w has two bytes
unfoldable pub after_last : Text → Text → Text → Text
after_last w found [] = found
after_last w found (x ∷ t) = after_last w (if starts (x ∷ t) w then drop 1 t otherwise found) t

-- ---------------------------------------------------------------- numbers

abbrev pub between : ℕ → ℕ → ℕ → Bool
between lo hi c = nat_le lo c && nat_le c hi

-- the value of a digit: 0 to 9, then A to Z or a to z for 10 to 35; 36 for a byte that is no digit
unfoldable pub digit_value : ℕ → ℕ
digit_value c =
    if between (code "0") (code "9") c then c - code "0" otherwise
    if between (code "A") (code "Z") c then c - code "A" + 10 otherwise
    if between (code "a") (code "z") c then c - code "a" + 10 otherwise 36

-- the byte is a digit of a number in the base
unfoldable pub digit : ℕ → ℕ → Bool
digit base c = nat_lt (digit_value c) base

-- the number that the digits write after n
unfoldable pub number : ℕ → ℕ → Text → ℕ
number base n [] = n
number base n (c ∷ t) = number base (n * base + digit_value c) t

-- a number in decimal, of at most as many digits as the first number
unfoldable pub decimal : ℕ → ℕ → Text
decimal zero n = []
decimal (suc k) n =
    if nat_lt n 10 then (code "0" + n) ∷ [] otherwise decimal k (n / 10) ++ ((code "0" + n % 10) ∷ [])
