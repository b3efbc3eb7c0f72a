-- What one read adds to the bytes that are filled. Assumes nothing.
use Rattle.std.proofs.Common.{ℕ, ◌+◌, ◌≤◌, List, ◌++◌, length, take, sym, ap, ◌∙◌, subst, le_refl, drop_at, length-take-le}
use Rattle.std.specs.Prelude.{Option}
use Rattle.std.specs.Io.KnownBytes.{Consumes}
use Rattle.std.proofs.KnownBytes.{Consumes-trans}
use Rattle.std.proofs.lemmas.Slice.{take-put_mid_below}
use borrow.Rule.Slice.PartMut.{put_mid, post_of}
use lib.Seq.{take-add, take-append-le}

-- xs was filled up to a, and then ys was put there, of which n bytes were read
pub filled_more : (p q r : Option (List ℕ)) (xs ys : List ℕ) (a k n : ℕ) → a ≤ length xs → n ≤ length ys
    → Consumes p q (take a xs) → Consumes q r (take n ys) → Consumes p r (take (a + n) (put_mid a k xs ys))
filled_more p q r xs ys a k n h m before read =
    let front = take-put_mid_below a k xs ys a (le_refl a) h in
    let part = ap (take n) (drop_at (take a xs) (ys ++ post_of a k xs) a (length-take-le a xs h)) ∙ take-append-le n ys (post_of a k xs) m in
    let whole = take-add a n (put_mid a k xs ys) in
    subst (Consumes p r) (ap (λ l. l ++ take n ys) (sym front) ∙ ap (λ l. take a (put_mid a k xs ys) ++ l) (sym part) ∙ sym whole)
    (Consumes-trans p q r (take a xs) (take n ys) before read)
