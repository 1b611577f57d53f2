-- Thunks are no catalogue symbols: the entry for normal symbols tells 6 for an accepted one. Its answers for symbols that don't begin so are what
-- they were. Assumes nothing.
use Rattle.std.specs.Prelude.{Bool, true, false, [], ◌∷◌, ◌≡◌, refl, ℕ, ltb, length}
use Rattle.std.proofs.Math.Option.{Option, none, some}
use Rattle.std.proofs.Common.{ap, ◌∙◌, arith}
use Rattle.grammar.specs.Text.{Text, b, if◌then◌otherwise◌, choose, digit, digit_value}
use Rattle.grammar.specs.Limits.{most_symbol_bytes}
use Rattle.grammar.specs.Tables.{◌⇒◌}
use Rattle.grammar.specs.Reader.{find}
use Rattle.grammar.specs.Names.{Answer, named, refusal, Lent, high, mangled_name, front, demangle, within}
use Rattle.grammar.specs.Laws.Thunks.{non_virtual, virtual, clone, ThunkSymbol, behind_Z, behind-◌Z, Kept, kept_by, if_kept}
use Rattle.grammar.specs.Laws.Thunks.{mangled_without, demangle_without, mangled_kept, front_kept, demangle_kept}
use Rattle.catalogue.specs.Class.{wrong}
use Rattle.catalogue.specs.Recogniser.{with_code, lead, parse, parse_sym, classify}
use Rattle.catalogue.specs.Answer.{normal_told, normal_after, normal_symbol, normal_work_fits, normal_answer}

thunk_wrong : {t : Text} → ThunkSymbol t → classify t ≡ wrong
unfolding classify parse_sym parse lead with_code choose digit digit_value if◌then◌otherwise◌ b
thunk_wrong (behind_Z (non_virtual t)) = refl
thunk_wrong (behind_Z (virtual t)) = refl
thunk_wrong (behind_Z (clone p)) = refl
thunk_wrong (behind-◌Z (non_virtual t)) = refl
thunk_wrong (behind-◌Z (virtual t)) = refl
thunk_wrong (behind-◌Z (clone p)) = refl

pub thunk_6 : {t x : Text} → ThunkSymbol t → demangle most_symbol_bytes t ≡ named x → normal_symbol most_symbol_bytes t ≡ refusal 6
unfolding normal_symbol normal_after normal_told
thunk_6 {t} p e = ap (normal_after most_symbol_bytes t) e ∙ rw (thunk_wrong p)

-- a name behind the front, and another answer made of it
front_named : (limit : ℕ) (t x : Text) (f : Text → Answer) (h : Answer → Answer) → front limit t f ≡ named x → front limit t (λ u. h (f u)) ≡ h (named x)
unfolding front if◌then◌otherwise◌ choose
front_named limit t x f h = go (ltb limit (length t)) (high t) (find ("_Z" ⇒ tt {0} ∷ "__Z" ⇒ tt {0} ∷ []) t)
  where
    told : Bool → Bool → Option (Unit {0} × Text) → (Text → Answer) → Answer
    told i j o f = if i then refusal 1 otherwise if j then refusal 2 otherwise choose o (λ r. f r.1) (refusal 3)

    no_name : {k : ℕ} {y : Answer} → refusal k ≡ named x → y ≡ h (named x)
    no_name e = let z : ◌≡◌ {A = ℕ} 0 1 = cc in absurd (omega arith)

    go : (i j : Bool) (o : Option (Unit {0} × Text)) → told i j o f ≡ named x → told i j o (λ u. h (f u)) ≡ h (named x)
    go true j o e = no_name e
    go false true o e = no_name e
    go false false none e = no_name e
    go false false (some r) e = ap h e

-- the same with the slices of the entry, long enough
pub thunk_answer_6 : {t x : Text} (l : Lent) → ThunkSymbol t → demangle most_symbol_bytes t ≡ named x → normal_work_fits most_symbol_bytes l ≡ true → normal_answer most_symbol_bytes l t ≡ refusal 6
unfolding demangle normal_answer normal_after normal_told within if◌then◌otherwise◌
thunk_answer_6 {t} {x} l p e f =
    front_named most_symbol_bytes t x mangled_name (λ a. if normal_work_fits most_symbol_bytes l then within l.out (normal_after most_symbol_bytes t a) otherwise refusal 14) e ∙ rw (f, thunk_wrong p)

-- the normal symbol without thunks, by itself and with the slices of the entry
unfoldable pub normal_symbol_without : Text → Answer
normal_symbol_without t = normal_after most_symbol_bytes t (demangle_without most_symbol_bytes t)

unfoldable pub normal_answer_without : Lent → Text → Answer
normal_answer_without l t =
    front most_symbol_bytes t λ u. if normal_work_fits most_symbol_bytes l then within l.out (normal_after most_symbol_bytes t (mangled_without u)) otherwise refusal 14

pub normal_symbol_kept : (t : Text) → Kept (ThunkSymbol t) (refusal 4) (normal_symbol_without t) (normal_symbol most_symbol_bytes t)
unfolding normal_symbol_without normal_symbol normal_after
normal_symbol_kept t = kept_by (normal_after most_symbol_bytes t) (λ p. p) (demangle_kept most_symbol_bytes t)

pub normal_answer_kept : (l : Lent) (t : Text) → Kept (ThunkSymbol t) (refusal 4) (normal_answer_without l t) (normal_answer most_symbol_bytes l t)
unfolding normal_answer_without normal_answer normal_after within
normal_answer_kept l t =
    front_kept most_symbol_bytes t _ _ λ u. if_kept _ (normal_work_fits most_symbol_bytes l) (kept_by (λ a. within l.out (normal_after most_symbol_bytes t a)) (λ p. p) (mangled_kept u))
