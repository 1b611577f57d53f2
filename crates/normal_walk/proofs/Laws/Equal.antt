-- The walk is the normal symbol of what the recogniser finds.
use Rattle.std.proofs.Math.Option.{Option, none, some}
use Rattle.std.specs.Prelude.{◌≡◌, refl, ℕ}
use Rattle.std.proofs.Common.{◌∙◌, ap, arith}
use Rattle.grammar.specs.Text.{Text}
use Rattle.catalogue.specs.Tree.{Enc}
use Rattle.catalogue.specs.Class.{Res, ok, wrong, Catalogue}
use Rattle.catalogue.specs.Normal.{write, normal_of}
use Rattle.catalogue.specs.Recogniser.{classify}
use Rattle.catalogue.specs.Answer.{normal_in}
use Rattle.catalogue.proofs.Laws.Decision.{classify_sound, classify_complete}
use Rattle.normal_walk.specs.Walk.{walk_sym}
use Rattle.normal_walk.proofs.Laws.SymbolComplete.{walk_complete}
use Rattle.normal_walk.proofs.Laws.SymbolSound.{walk_sound}

pub walk_is : (s : Text) → walk_sym s ≡ normal_in (classify s)
walk_is s = go (classify s) refl
  where
    outside : (o : Option Text) → walk_sym s ≡ o → classify s ≡ wrong → o ≡ none
    outside none h e = refl
    outside (some v) h e =
        let k = classify_complete (walk_sound s v h) in
        let z : ◌≡◌ {A = ℕ} 0 1 = cc in
        absurd (omega arith)

    go : (r : Res Enc) → classify s ≡ r → walk_sym s ≡ normal_in r
    go (ok e us) h = let (c, t, u) = classify_sound s e us h in walk_complete c ∙ ap (λ x. some (write x)) t
    go wrong h = outside (walk_sym s) refl h

-- what is written is the normal symbol of a catalogue symbol
pub walk_normal : (s v : Text) → walk_sym s ≡ some v → (c : Catalogue s) × (normal_of c ≡ v)
walk_normal s v h = let c = walk_sound s v h in let k = walk_complete c in (c, (cc))

-- where nothing is written, the text is no catalogue symbol
pub walk_outside : (s : Text) → walk_sym s ≡ none → Catalogue s → ⊥
walk_outside s h c = let k = walk_complete c in let z : ◌≡◌ {A = ℕ} 0 1 = cc in omega arith
