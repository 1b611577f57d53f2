-- A symbol as it is written, references included: one constructor for each form that document 01 lists under "Added: catalogue
-- symbols", and the bytes that it is spelled with.
use Rattle.std.specs.Prelude.{Bool, true, false, [], ◌∷◌, ◌++◌, ℕ, zero, suc, ◌+◌, ◌-◌, ◌/◌, ◌%◌, ltb, length}
use Rattle.std.proofs.Math.Option.{Option, none, some}
use Prim.Native.Char.{code}
use Rattle.grammar.specs.Text.{Text, if◌then◌otherwise◌, decimal}
use Rattle.catalogue.specs.Tree.{Letter, Wrap, Kind, letter_code, wrap_code, kind_code}

mutual
  -- a type, or an argument
  pub data Sp : Type 0 where
    s_letter : Letter → Sp
    s_wrap : Wrap → Sp → Sp
    s_ref : ℕ → Sp  -- a reference to entry i
    plain : Text → Sp  -- one part
    templ : Text → SpArgs → Sp  -- one part with arguments
    retempl : ℕ → SpArgs → Sp  -- arguments after a reference, outside N
    nest_sub : Pre → Text → Sp  -- N .. part E
    nest_app : Pre → SpArgs → Sp  -- N .. arguments E
    s_lit : Kind → Bool → Text → Sp

  -- leading parts inside N: the ABI's <prefix>
  pub data Pre : Type 0 where
    p_ref : ℕ → Pre
    p_root : Text → Pre
    p_sub : Pre → Text → Pre
    p_app : Pre → SpArgs → Pre

  pub data SpArgs : Type 0 where
    s_one : Sp → SpArgs
    s_also : Sp → SpArgs → SpArgs

-- a function's name: one source name; or N, K where the flag says so, leading parts, the last part, E
pub data SpName : Type 0 where
  flat : Text → SpName
  scoped : Bool → Pre → Text → SpName

-- a symbol: its name and its types, if it has any
pub data Sym : Type 0 where
  symbol : SpName → Option SpArgs → Sym

-- ---------------------------------------------------------------- numbers

-- "digits and capitals"
unfoldable pub digit_of : ℕ → ℕ
digit_of d = if ltb d 10 then code "0" + d otherwise code "A" + (d - 10)

-- a number in base 36, of at most so many digits and one
unfoldable pub base36 : ℕ → ℕ → Text
base36 zero n = digit_of n ∷ []
base36 (suc k) n = if ltb n 36 then digit_of n ∷ [] otherwise base36 k (n / 36) ++ (digit_of (n % 36) ∷ [])

-- what stands between S and _: nothing for entry 0, and the number before it for another
unfoldable pub ref_digits : ℕ → Text
ref_digits zero = []
ref_digits (suc i) = base36 i i

abbrev pub ref_bytes : ℕ → Text
ref_bytes i = code "S" ∷ (ref_digits i ++ (code "_" ∷ []))

-- the length in decimal, and the bytes
abbrev pub length_digits : Text → Text
length_digits n = decimal (suc (length n)) (length n)

abbrev pub name_bytes : Text → Text
name_bytes n = length_digits n ++ n

-- ---------------------------------------------------------------- bytes

abbrev pub minus : Bool → Text
minus true = code "n" ∷ []
minus false = []

unfoldable mutual
  pub spell : Sp → Text
  spell (s_letter l) = letter_code l ∷ []
  spell (s_wrap c s) = wrap_code c ∷ spell s
  spell (s_ref i) = ref_bytes i
  spell (plain n) = name_bytes n
  spell (templ n ss) = name_bytes n ++ (code "I" ∷ (spell_args ss ++ (code "E" ∷ [])))
  spell (retempl i ss) = ref_bytes i ++ (code "I" ∷ (spell_args ss ++ (code "E" ∷ [])))
  spell (nest_sub q n) = code "N" ∷ (spell_pre q ++ (name_bytes n ++ (code "E" ∷ [])))
  spell (nest_app q ss) = code "N" ∷ (spell_pre q ++ (code "I" ∷ (spell_args ss ++ (code "E" ∷ code "E" ∷ []))))
  spell (s_lit k g v) = code "L" ∷ kind_code k ∷ (minus g ++ (v ++ (code "E" ∷ [])))

  pub spell_pre : Pre → Text
  spell_pre (p_ref i) = ref_bytes i
  spell_pre (p_root n) = name_bytes n
  spell_pre (p_sub q n) = spell_pre q ++ name_bytes n
  spell_pre (p_app q ss) = spell_pre q ++ (code "I" ∷ (spell_args ss ++ (code "E" ∷ [])))

  pub spell_args : SpArgs → Text
  spell_args (s_one s) = spell s
  spell_args (s_also s ss) = spell s ++ spell_args ss

abbrev pub const_byte : Bool → Text
const_byte true = code "K" ∷ []
const_byte false = []

abbrev pub spell_name : SpName → Text
spell_name (flat n) = name_bytes n
spell_name (scoped c q n) = code "N" ∷ (const_byte c ++ (spell_pre q ++ (name_bytes n ++ (code "E" ∷ []))))

abbrev pub spell_params : Option SpArgs → Text
spell_params none = []
spell_params (some ss) = spell_args ss

unfoldable pub spell_sym : Sym → Text
spell_sym (symbol m ps) = code "_" ∷ code "Z" ∷ (spell_name m ++ spell_params ps)
