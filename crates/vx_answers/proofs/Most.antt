-- How many names a program has.
use Rattle.std.proofs.Common.{◌≡◌, ℕ, true, false, ◌<◌, ◌≤◌, arith, refl, ap, ◌∙◌, nat_lt}
use Rattle.std.proofs.lemmas.Bool.Decides.{nat_tests}
use Rattle.vx_answers.specs.declared.limits.TheConstants.{MOST_NAMES}
use Rattle.vx_answers.specs.OrderRows.{most_names}

pub most_is : most_names ≡ MOST_NAMES
unfolding most_names
most_is = refl

pub more_than_most : (n : ℕ) → MOST_NAMES < n → nat_lt most_names n ≡ true
more_than_most n more = ap (λ m. nat_lt m n) most_is ∙ grind (arith, nat_tests, more)

pub no_more_than_most : (n : ℕ) → n ≤ MOST_NAMES → nat_lt most_names n ≡ false
no_more_than_most n few = ap (λ m. nat_lt m n) most_is ∙ grind (arith, nat_tests, few)
