-- What holds of all that a reader reads. Assumes nothing.
use mathlib.Core.Path.{◌≡◌, refl, sym}
use mathlib.Core.Bool.{Bool, true, false}
use mathlib.Core.List.{List, [], ◌∷◌, ◌++◌}
use Prim.Native.Nat.{ℕ, zero, suc, ◌+◌, ◌≤◌}
use native.Mathlib.Omega.{arith}
use lib.Dec.{leb, eqb}
use lib.IntN.{ℤ, pos, nat_abs}
use lib.ListN.{drop}
use borrow.Author.Tests.{leb-true, eqb-false}
use Rattle.asp.specs.Sets.{pick, In}
use Rattle.asp.specs.Program.{Weighed, Body, normal, weighted, All, LiteralIn}
use Rattle.asp.specs.Tables.{named, span, literals_at, pairs_at}
use Rattle.aspif_fields.specs.Fields.{within, Read, got, bad, bind, next, token, ranged, number, signed_token, signed_up_to, signed, field, natural, atom, literal, nil, weighed_field}
use Rattle.aspif_lines.specs.Text.{member_field, more, ended, normal_body, weighted_body, body_field}
use Rattle.aspif_fields.proofs.Tokens.{within_ends}

-- ---- what is read, if something is

abbrev pub Reads : {A : Type 0} → (A → Type 0) → Read A → Type 0
Reads P (got a l) = P a
Reads P (bad c) = Unit {0}

abbrev pub Any : {A : Type 0} → A → Type 0
Any a = Unit {0}

pub any : {A : Type 0} (x : Read A) → Reads Any x
any (got a l) = tt
any (bad c) = tt

pub reads_bind : {A B : Type 0} (P : A → Type 0) (Q : B → Type 0) (x : Read A) (k : A → List ℕ → Read B) → Reads P x → ((a : A) (l : List ℕ) → P a → Reads Q (k a l)) → Reads Q (bind x k)
reads_bind P Q (got a l) k p f = f a l p
reads_bind P Q (bad c) k p f = tt

pub reads_pick : {A : Type 0} (P : A → Type 0) (b : Bool) (x y : Read A) → (b ≡ true → Reads P x) → (b ≡ false → Reads P y) → Reads P (pick b x y)
reads_pick P true x y f g = f refl
reads_pick P false x y f g = g refl

abbrev pub Range : ℕ → ℕ → ℕ → Type 0
Range lo hi v = (lo ≤ v) × (v ≤ hi)

pub number_reads : (lo hi : ℕ) (l : List ℕ) → Reads (Range lo hi) (number lo hi l)
unfolding number
number_reads lo hi l =
    reads_bind Any (Range lo hi) (token l) (ranged lo hi) (any (token l))
    (λ v r u. reads_pick (Range lo hi) (within lo hi v) (got v r) (bad 4) (within_ends lo hi v) (λ e. tt))

pub field_reads : {A : Type 0} (P : A → Type 0) (f : List ℕ → Read A) (l : List ℕ) → ((r : List ℕ) → Reads P (f r)) → Reads P (field f l)
field_reads P f l h = reads_pick P (eqb (next l) 32) (f (drop 1 l)) (bad 2) (λ e. h (drop 1 l)) (λ e. tt)

pub natural_reads : (lo hi : ℕ) (l : List ℕ) → Reads (Range lo hi) (natural lo hi l)
unfolding natural
natural_reads lo hi l = field_reads (Range lo hi) (number lo hi) l (number_reads lo hi)

abbrev pub Small : ℕ → ℤ → Type 0
Small hi z = nat_abs z ≤ hi

pub signed_reads : (hi : ℕ) (l : List ℕ) → Reads (Small hi) (signed hi l)
unfolding signed
signed_reads hi l =
    reads_bind Any (Small hi) (signed_token l) (signed_up_to hi) (any (signed_token l))
    (λ z r u. reads_pick (Small hi) (leb (nat_abs z) hi) (got z r) (bad 4) (leb-true (nat_abs z) hi) (λ e. tt))

-- a head's atom is one, and a body's literal has one
abbrev pub Member : Bool → ℤ → Type 0
Member true z = In 1024 (named z)
Member false z = LiteralIn 1024 z

positive_abs : (n : ℕ) → eqb n 0 ≡ false → 1 ≤ n
positive_abs zero e = absurd (eqb-false 0 0 e refl)
positive_abs (suc n) e = omega arith

pub literal_reads : (l : List ℕ) → Reads (LiteralIn 1024) (literal l)
unfolding literal
literal_reads l =
    reads_bind (Small 1024) (LiteralIn 1024) (field (signed 1024) l) (λ z r. pick (eqb (nat_abs z) 0) (bad 4) (got z r)) (field_reads (Small 1024) (signed 1024) l (signed_reads 1024))
    (λ z r h. reads_pick (LiteralIn 1024) (eqb (nat_abs z) 0) (bad 4) (got z r) (λ e. tt) (λ e. (positive_abs (nat_abs z) e, h)))

pub member_reads : (b : Bool) (l : List ℕ) → Reads (Member b) (member_field b l)
unfolding atom
member_reads true l = reads_bind (Range 1 1024) (Member true) (natural 1 1024 l) (λ a r. got (pos a) r) (natural_reads 1 1024 l) (λ a r h. h)
member_reads false l = literal_reads l

pub all_append : {A : Type 0} (P : A → Type 0) (xs ys : List A) → All P xs → All P ys → All P (xs ++ ys)
all_append P [] ys f g = g
all_append P (x ∷ xs) ys f g = (f.0, all_append P xs ys f.1 g)

pub more_reads : {A : Type 0} (P : A → Type 0) (f : List ℕ → Read A) (k : ℕ) (xs : List A) (l : List ℕ) → ((r : List ℕ) → Reads P (f r)) → All P xs → Reads (All P) (more f k xs l)
unfolding more
more_reads P f zero xs l h a = a
more_reads P f (suc k) xs l h a =
    reads_bind P (All P) (f l) (λ a r. more f k (xs ++ (a ∷ [])) r) (h l) (λ x r p. more_reads P f k (xs ++ (x ∷ [])) r h (all_append P xs (x ∷ []) a (p, tt)))

pub ended_reads : {A : Type 0} (P : A → Type 0) (a : A) (l : List ℕ) → P a → Reads P (ended a l)
ended_reads P a l p = reads_pick P (nil l) (got a []) (bad 2) (λ e. p) (λ e. tt)

-- ---- order 2: bodies with weights

-- a literal and a weight in their ranges
abbrev pub WeighedIn : Weighed → Type 0
WeighedIn p = LiteralIn 1024 p.literal × (p.weight ≤ 1000000)

pub weighed_reads : (l : List ℕ) → Reads WeighedIn (weighed_field l)
unfolding weighed_field
weighed_reads l =
    reads_bind (LiteralIn 1024) WeighedIn (literal l) _ (literal_reads l) (λ z l h.
    reads_bind (Range 0 1000000) WeighedIn (natural 0 1000000 l) _ (natural_reads 0 1000000 l) (λ w l r. (h, r.1)))

-- order 2: "Bound is 0 to 1,000,000,000, each weight 0 to 1,000,000"
abbrev pub BodyRead : Body → Type 0
BodyRead (normal ls) = All (LiteralIn 1024) ls
BodyRead (weighted b ps) = (b ≤ 1000000000) × All WeighedIn ps

normal_reads : (l : List ℕ) → Reads BodyRead (normal_body l)
unfolding normal_body
normal_reads l =
    reads_bind Any BodyRead (natural 0 1024 l) _ (any (natural 0 1024 l)) (λ k l u.
    reads_bind (All (Member false)) BodyRead (more (member_field false) k [] l) _ (more_reads (Member false) (member_field false) k [] l (member_reads false) tt) (λ ls l h. h))

weighted_reads : (l : List ℕ) → Reads BodyRead (weighted_body l)
unfolding weighted_body
weighted_reads l =
    reads_bind (Range 0 1000000000) BodyRead (natural 0 1000000000 l) _ (natural_reads 0 1000000000 l) (λ b l r.
    reads_bind Any BodyRead (natural 0 1024 l) _ (any (natural 0 1024 l)) (λ k l u.
    reads_bind (All WeighedIn) BodyRead (more weighed_field k [] l) _ (more_reads WeighedIn weighed_field k [] l weighed_reads tt) (λ ps l h. (r.1, h))))

pub body_reads : (l : List ℕ) → Reads BodyRead (body_field l)
unfolding body_field
body_reads l =
    reads_bind Any BodyRead (natural 0 1 l) _ (any (natural 0 1 l)) (λ b l u.
    reads_pick BodyRead (eqb b 1) (weighted_body l) (normal_body l) (λ e. weighted_reads l) (λ e. normal_reads l))

-- the literals of pairs that were read into a pool
literals_of_lem : (pool : List ℤ) (g i k : ℕ) → All WeighedIn (pairs_at pool g i k) → All (LiteralIn 1024) (literals_at pool i k)
unfolding span
literals_of_lem pool g i zero h = tt
literals_of_lem pool g i (suc k) h = (h.0.0, literals_of_lem pool g (i + 1) k h.1)

pub pairs_small : (pool : List ℤ) (i k : ℕ) (l r : List ℕ) → got (pairs_at pool (k + 1) i k) r ≡ more weighed_field k [] l → All (LiteralIn 1024) (literals_at pool i k)
pairs_small pool i k l r e = literals_of_lem pool (k + 1) i k (rw (sym e) at (more_reads WeighedIn weighed_field k [] l weighed_reads tt))
