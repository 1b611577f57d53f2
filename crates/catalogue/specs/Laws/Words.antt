-- Words and marks of a printed name: a word is a longest run of letters, digits and _; every other byte is a mark.
use Rattle.std.specs.Prelude.{true, List, [], ◌∷◌, ◌++◌, ◌≡◌, refl, ℕ}
use Rattle.std.proofs.Common.{ap}
use Rattle.grammar.specs.Text.{Text, if◌then◌otherwise◌}
use Rattle.catalogue.specs.Bytes.{all, and_left, and_right}
use Rattle.catalogue.specs.Class.{word_byte}

pub data Token : Type 0 where
  a_word : Text → Token
  a_mark : ℕ → Token

abbrev pub grow : ℕ → List Token → List Token
grow c [] = a_word (c ∷ []) ∷ []
grow c (a_word x ∷ ts) = a_word (c ∷ x) ∷ ts
grow c (a_mark d ∷ ts) = a_word (c ∷ []) ∷ a_mark d ∷ ts

unfoldable pub lex : Text → List Token
lex [] = []
lex (c ∷ s) = if word_byte c then grow c (lex s) otherwise a_mark c ∷ lex s

-- what may stand after a word
abbrev pub NoWord : List Token → Type 0
NoWord [] = Unit {0}
NoWord (a_word x ∷ ts) = ⊥
NoWord (a_mark c ∷ ts) = Unit {0}

grow_first : (c : ℕ) (ts : List Token) → NoWord ts → grow c ts ≡ a_word (c ∷ []) ∷ ts
grow_first c [] h = refl
grow_first c (a_word x ∷ ts) h = absurd h
grow_first c (a_mark d ∷ ts) h = refl

-- a word that is not empty, before something that is no word
pub lex_word : (c : ℕ) (n s : Text) → all word_byte (c ∷ n) ≡ true → NoWord (lex s) → lex ((c ∷ n) ++ s) ≡ a_word (c ∷ n) ∷ lex s
unfolding lex if◌then◌otherwise◌
lex_word c [] s h q = rw (and_left (word_byte c) true h) (grow_first c (lex s) q)
lex_word c (d ∷ n) s h q =
    rw (and_left (word_byte c) (all word_byte (d ∷ n)) h) (ap (grow c) (lex_word d n s (and_right (word_byte c) (all word_byte (d ∷ n)) h) q))
