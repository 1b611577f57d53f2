-- An accepted catalogue symbol is printed as its tree's name, within the limits; and a written symbol with room for it is accepted.
use Rattle.std.specs.Prelude.{Bool, true, false, List, [], ◌∷◌, ◌++◌, ◌≡◌, refl, ℕ, ◌≤◌, length, ltb}
use Rattle.std.proofs.Common.{sym, ◌∙◌, ap, arith, le-ltb}
use Prim.Native.Char.{code}
use Rattle.grammar.specs.Text.{Text, b, if◌then◌otherwise◌, choose, same, starts}
use Rattle.grammar.specs.Limits.{most_open, most_text_bytes}
use Rattle.grammar.specs.Reader.{State, Result, ok, refused, start, find}
use Rattle.grammar.specs.Grammar.{⟨encoding⟩, reading, ended}
use Rattle.grammar.specs.Names.{named, refusal, demangle, front, mangled_name, finished, high}
use Rattle.catalogue.specs.Tree.{Ty, Enc, print_enc}
use Rattle.catalogue.specs.Spelling.{Sym, symbol, spell_name, spell_params, spell_sym}
use Rattle.catalogue.specs.Class.{resolve_sym}
use Rattle.catalogue.specs.Class as class
use Rattle.catalogue.proofs.Laws.Limits.{depth_sym}
use Rattle.catalogue.specs.Laws.WellFormed.{WfEnc, sym_wf}
use Rattle.catalogue.proofs.Laws.SymbolReadsBack.{sym_ok}
use Rattle.agreement.specs.Laws.Verdict.{at, Verdict, reads, stops}
use Rattle.agreement.specs.Laws.After.{after_is}
use Rattle.agreement.specs.Laws.Printed.{printed_clean}
use Rattle.agreement.specs.Laws.Rooms.{Fits}
use Rattle.agreement.specs.Laws.Symbols.{RoomSym, Told, SymRead, reads_symbol}
use Rattle.agreement.specs.Laws.Ascii.{symbol_ascii}

-- the symbol behind its _Z
abbrev behind_Z : Sym → Text
behind_Z (symbol m ps) = spell_name m ++ spell_params ps

-- what an accepted symbol tells: its name is the tree's, and its reading kept the limits
pub record Accepted (σ : Sym) (e : Enc) (us : List Ty) (x : Text) : Type 0 where
  pub name : x ≡ print_enc e
  pub table : Fits us
  pub deep : depth_sym σ ≤ most_open
  pub short : length (print_enc e) ≤ most_text_bytes

refused_not : (n : ℕ) (x : Text) → refusal n ≡ named x → ⊥
refused_not n x i = let z : ◌≡◌ {A = ℕ} 0 1 = cc in omega arith

-- ---------------------------------------------------------------- behind _Z

module _ (σ : Sym) (e : Enc) (us : List Ty) (wf : WfEnc e) where
  finished_named : (x : Text) (s : State) → Told σ e us x s → finished (ok x s) ≡ named (print_enc e)
  unfolding finished ended same if◌then◌otherwise◌
  finished_named x s h = rw (h.whole, h.text, printed_clean e wf)

  told : (o : Result Text) (x : Text) → Verdict (RoomSym σ e us) (Told σ e us) o → finished o ≡ named x → Accepted σ e us x
  told (ok y s) x (reads h) i =
      let k = finished_named y s h in
      let j : named x ≡ named (print_enc e) = sym i ∙ k in
      record { name = cc; table = h.table; deep = h.deep; short = h.short }
  told (refused n) x (stops h) i = absurd (refused_not n x (unfold finished in i))

  fits_told : (o : Result Text) → Verdict (RoomSym σ e us) (Told σ e us) o → RoomSym σ e us → finished o ≡ named (print_enc e)
  fits_told (ok y s) (reads h) r = finished_named y s h
  fits_told (refused n) (stops h) r = absurd (h r)

-- ---------------------------------------------------------------- the symbol

accepted_front : (limit : ℕ) (u x : Text) → demangle limit (code "_" ∷ code "Z" ∷ u) ≡ named x → mangled_name u ≡ named x
unfolding demangle front find choose starts b if◌then◌otherwise◌
accepted_front limit u x h = go (ltb limit (length (code "_" ∷ code "Z" ∷ u))) (high (code "_" ∷ code "Z" ∷ u)) h
  where
    go : (p q : Bool) → (if p then refusal 1 otherwise if q then refusal 2 otherwise mangled_name u) ≡ named x → mangled_name u ≡ named x
    go true q i = absurd (refused_not 1 x i)
    go false true i = absurd (refused_not 2 x i)
    go false false i = i

front_accepts : (limit : ℕ) (u : Text) → length (code "_" ∷ code "Z" ∷ u) ≤ limit → high (code "_" ∷ code "Z" ∷ u) ≡ false
    → demangle limit (code "_" ∷ code "Z" ∷ u) ≡ mangled_name u
unfolding demangle front find choose starts b if◌then◌otherwise◌
front_accepts limit u h i = rw (le-ltb limit (length (code "_" ∷ code "Z" ∷ u)) h, i)

mangled_is : (u : Text) → mangled_name u ≡ finished (reading ⟨encoding⟩ (at u [] [] 0 [] false))
unfolding mangled_name start
mangled_is u = refl

symbol_read : (σ : Sym) (e : Enc) (us : List Ty) → resolve_sym σ ≡ class.ok e us
    → Verdict (RoomSym σ e us) (Told σ e us) (reading ⟨encoding⟩ (at (behind_Z σ) [] [] 0 [] false))
symbol_read (symbol m ps) e us h = after_is (SymRead (symbol m ps)) (resolve_sym (symbol m ps)) e us h (reads_symbol (symbol m ps))

spelled : (σ : Sym) → spell_sym σ ≡ code "_" ∷ code "Z" ∷ behind_Z σ
unfolding spell_sym
spelled (symbol m ps) = refl

module _ (σ : Sym) (e : Enc) (us : List Ty) (h : resolve_sym σ ≡ class.ok e us) where
  -- what is accepted is named after its tree
  pub accepted : (limit : ℕ) (x : Text) → demangle limit (spell_sym σ) ≡ named x → Accepted σ e us x
  accepted limit x i =
      let j : demangle limit (code "_" ∷ code "Z" ∷ behind_Z σ) ≡ named x = rw (spelled σ) at i in
      told σ e us (sym_wf σ e us h) _ x (symbol_read σ e us h) (sym (mangled_is (behind_Z σ)) ∙ accepted_front limit (behind_Z σ) x j)

  -- what has room is accepted
  pub accepts : (limit : ℕ) → length (spell_sym σ) ≤ limit → RoomSym σ e us → demangle limit (spell_sym σ) ≡ named (print_enc e)
  accepts limit l r =
      let l' : length (code "_" ∷ code "Z" ∷ behind_Z σ) ≤ limit = rw (spelled σ) at l in
      let i : high (code "_" ∷ code "Z" ∷ behind_Z σ) ≡ false = rw (spelled σ) at (symbol_ascii σ (sym_ok σ e us h)) in
      ap (demangle limit) (spelled σ) ∙ front_accepts limit (behind_Z σ) l' i ∙ mangled_is (behind_Z σ)
      ∙ fits_told σ e us (sym_wf σ e us h) _ (symbol_read σ e us h) r
