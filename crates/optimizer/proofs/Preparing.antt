-- What is prepared for a program, and that every program in shape has it. Assumes nothing.
use mathlib.Core.Path.{◌≡◌, refl, sym, ap, ◌∙◌}
use mathlib.Core.Bool.{Bool, true, false, not}
use mathlib.Core.List.{List, [], ◌∷◌}
use mathlib.Core.Logic.{◌⊎◌, inl, inr}
use Prim.Native.Nat.{ℕ, ◌≤◌}
use native.Mathlib.Omega.{arith}
use native.Mathlib.Nat.{zero-add}
use lib.Dec.{T, eqb, ltb}
use lib.ListN.{get_or-eq_default}
use borrow.Author.Tests.{ltb-true, ltb-false}
use Rattle.asp.specs.Sets.{In, set_of, ind}
use Rattle.asp.specs.Program.{Head, constraint, plain, choice, Rule, All, HeadIn, RuleIn}
use Rattle.asp.specs.Penalty.{penalties}
use Rattle.asp.specs.Tables.{span}
use mir.Facts.{and_yes, or_yes}
use Rattle.asp.proofs.Stability.{member_in}
use Rattle.cores.proofs.Spans.{length_span, get_d_span}
use Rattle.choosing.specs.First.{is_bodiless, chosen_by, freely_chosen_by, freely_chosen, paid_for}
use Rattle.indexing.proofs.Lists.{lists_exist}
use Rattle.optimizer.specs.declared.prepare.Preparation.{Preparation}
use Rattle.advancing.specs.Source.{Source, entries_in, rules_in, rule_tables, first_in, FormedSource, Tries, Prepared}

-- ---- an atom to try in first is one of 1 to n

chosen_in : (n : ℕ) (h : Head) → HeadIn n h → (a : ℕ) → T (chosen_by h a) → In n a
chosen_in n constraint i a t = absurd t
chosen_in n (plain x) i a t = absurd t
chosen_in n (choice hs) i a t = member_in n hs i a t

freely_in : (n : ℕ) (rs : List Rule) → All (RuleIn n) rs → (a : ℕ) → T (freely_chosen rs a) → In n a
unfolding freely_chosen
freely_in n [] i a t = absurd t
freely_in n (r ∷ rs) i a t = go (or_yes (freely_chosen_by r a) (freely_chosen rs a) t) (freely_in n rs i.1 a)
  where
    go : T (freely_chosen_by r a) ⊎ T (freely_chosen rs a) → (T (freely_chosen rs a) → In n a) → In n a
    go (inl x) f = chosen_in n r.head i.0.0 a (and_yes (is_bodiless r.body) (chosen_by r.head a) x).1
    go (inr x) f = f x

module _ (S : Source) (f : FormedSource S) where
  first_in_lem : (a : ℕ) → T (first_in S a) → a ≤ 1024
  first_in_lem a t =
      let i = freely_in S.n (rules_in S) f.rules.atoms a (and_yes (freely_chosen (rules_in S) a) (not (paid_for (penalties (entries_in S.levels)) a)) t).0 in
      omega (arith, i.1, f.rules.few)

  -- ---- so a table of them has 1,025 places

  abbrev table : List ℕ
  table = span (λ (a : ℕ). ind (first_in S a)) 0 1025

  said : (b : Bool) → eqb (ind b) 1 ≡ b
  said true = refl
  said false = refl

  past : (a : ℕ) → 1025 ≤ a → (b : Bool) → first_in S a ≡ b → false ≡ b
  past a h true e = absurd (omega (arith, first_in_lem a (subst_T (sym e))))
    where
      subst_T : true ≡ first_in S a → T (first_in S a)
      subst_T q = rw (sym q) tt
  past a h false e = refl

  tables : Tries S table
  tables = record { tries = λ a. go a (ltb a 1025) refl }
    where
      go : (a : ℕ) (b : Bool) → ltb a 1025 ≡ b → set_of table a ≡ first_in S a
      go a true e = ap (λ (x : ℕ). eqb x 1) (get_d_span (λ (a : ℕ). ind (first_in S a)) 0 1025 0 a (ltb-true a 1025 e) ∙ ap (λ (x : ℕ). ind (first_in S x)) (zero-add a)) ∙ said (first_in S a)
      go a false e = ap (λ (x : ℕ). eqb x 1) (get_or-eq_default table 0 {n = a} (omega (arith, ltb-false a 1025 e, length_span (λ (a : ℕ). ind (first_in S a)) 0 1025))) ∙ past a (ltb-false a 1025 e) (first_in S a) refl

  pub prepared_exist : (x : Preparation) × Prepared S x.conditions x.heads x.tried
  prepared_exist =
      let (o, c) = lists_exist (rule_tables S) f.readied false in
      let (h, d) = lists_exist (rule_tables S) f.readied true in
      (record { conditions = o; heads = h; tried = table }, record { lists = record { readied = f.readied; conditions = c; heads = d }; table = tables })
