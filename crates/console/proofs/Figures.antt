-- The figures that a loop has written. Assumes nothing.
use Rattle.std.proofs.Common.{◌≡◌, ℕ, zero, suc, ◌+◌, ◌<◌, List, [], ◌∷◌, ◌++◌, Option, Some, None, Ok, IfSome, refl, sym, ap, ◌∙◌, subst, length, take, get_or, codes, arith}
use Rattle.std.specs.Fmt.{◌++?◌, HasWritten, DisplaysOnOk}
use Rattle.std.specs.declared.fmt.Formatter.{Formatter}
use Rattle.std.proofs.lemmas.List.{append_assoc, append-nil, take_more}
use Rattle.std.proofs.lemmas.Grind.{put_two}
use Rattle.std.specs.List.{repeat}
use Rattle.console.specs.Print.{figures_text}

assoc : (a b c : Option (List ℕ)) → (a ++? b) ++? c ≡ a ++? (b ++? c)
assoc None b c = refl
assoc (Some a) None c = refl
assoc (Some a) (Some b) None = refl
assoc (Some a) (Some b) (Some c) = ap Some (append_assoc a b c)

ends : (a : Option (List ℕ)) → a ++? Some [] ≡ a
ends None = refl
ends (Some a) = ap Some (append-nil a)

starts : (a : Option (List ℕ)) → Some [] ++? a ≡ a
starts None = refl
starts (Some a) = refl

module _ {A : Type 0} (text : A → Option (List ℕ)) where
  abbrev one : A → Option (List ℕ)
  one x = Some (codes " ") ++? text x

  text_more : (xs : List A) (x : A) → figures_text text (xs ++ x ∷ []) ≡ figures_text text xs ++? one x
  unfolding figures_text
  text_more [] x = ap (λ t. Some (codes " ") ++? t) (ends (text x)) ∙ sym (starts (one x))
  text_more (y ∷ xs) x =
      ap (λ t. Some (codes " ") ++? (text y ++? t)) (text_more xs x)
      ∙ ap (λ t. Some (codes " ") ++? t) (sym (assoc (text y) (figures_text text xs) (one x)))
      ∙ sym (assoc (Some (codes " ")) (text y ++? figures_text text xs) (one x))

  module _ {W : Type 0} (took : W → List ℕ → W → Type 0) (f g h : Formatter W) (u : Unit {0}) where
    joined : (a b : Option (List ℕ)) → IfSome a (λ bs. HasWritten took f bs g) → DisplaysOnOk took g (Ok u) b h → IfSome (a ++? b) (λ bs. HasWritten took f bs h)
    joined None b p q = tt
    joined (Some a) None p q = tt
    joined (Some a) (Some b) p q = put_two took f g h a b (a ++ b) p (q p.plain refl) refl

    -- one figure more
    pub figure_more : (xs : List A) (i : ℕ) (x : A) → i < length xs → x ≡ get_or xs i x → IfSome (figures_text text (take i xs)) (λ bs. HasWritten took f bs g)
        → DisplaysOnOk took g (Ok u) (one x) h → IfSome (figures_text text (take (i + 1) xs)) (λ bs. HasWritten took f bs h)
    figure_more xs i x l e before now =
        let more : take (i + 1) xs ≡ take i xs ++ x ∷ [] = take_more xs i x l ∙ ap (λ y. take i xs ++ y ∷ []) (sym e) in
        subst (λ t. IfSome t (λ bs. HasWritten took f bs h)) (sym (ap (figures_text text) more ∙ text_more (take i xs) x)) (joined (figures_text text (take i xs)) (one x) before now)

repeat_more : {A : Type 0} (n : ℕ) (xs : List A) → repeat n xs ++ xs ≡ repeat (suc n) xs
repeat_more zero xs = sym (append-nil xs)
repeat_more (suc n) xs = append_assoc xs (repeat n xs) xs ∙ ap (λ l. xs ++ l) (repeat_more n xs)

-- a text written once more
pub text_again : {W : Type 0} (took : W → List ℕ → W → Type 0) (f g h : Formatter W) (n : ℕ) (xs : List ℕ) → HasWritten took f (repeat n xs) g → HasWritten took g xs h
    → HasWritten took f (repeat (n + 1) xs) h
text_again took f g h n xs before now = put_two took f g h (repeat n xs) xs (repeat (n + 1) xs) before now
    (let e : suc n ≡ n + 1 = omega arith in repeat_more n xs ∙ ap (λ k. repeat k xs) e)
