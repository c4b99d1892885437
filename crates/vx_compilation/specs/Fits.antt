-- Trees whose inlined calls have as many formals as arguments, and primitives that evaluate closures among their arguments: what the code of trees needs.
use Rattle.std.specs.Prelude.{◌≡◌, ℕ, ◌≤◌, List, [], ◌∷◌, length, Option, Some, None}
use Rattle.vx_model.specs.declared.value.Value.{Value}
use Rattle.vx_model.specs.declared.primitives.Deed.{Deed}
use Rattle.vx_model.specs.declared.primitives.Deed.TheVariants.{Evaluates, Repeats}
use Rattle.vx_compilation.specs.declared.tree.TreeBlock.{TreeBlock}
use Rattle.vx_compilation.specs.declared.tree.Part as p
use Rattle.vx_compilation.specs.declared.tree.Act as a
use Rattle.vx_compilation.specs.TreeMeaning.{World, Blocks, CodeKey}

abbrev pub count : {n : _} → p.Row_of-Part n → List (Unit {0})
count p.end_of-Part = []
count (p.more_of-Part own rest) = tt ∷ count rest

abbrev mutual
  pub Fits : p.Part → Type 0
  Fits (p.New' class shape row) = FitNew row
  Fits (p.Send' selector shape row) = FitAll row
  Fits (p.Resend' method place shape row) = FitAll row
  Fits (p.Prim' number shape row) = FitAll row
  Fits (p.Get' field shape row) = FitAll row
  Fits (p.Set' field shape row) = FitAll row
  Fits (p.Call' method variant shape row) = FitAll row
  Fits (p.Fail' error shape row) = FitAll row
  Fits (p.Inlined' shape row xs shape2 body) = FitAll row × (length xs ≡ length (count row)) × FitBody body
  Fits own = Unit {0}

  pub FitAll : {n : _} → p.Row_of-Part n → Type 0
  FitAll p.end_of-Part = Unit {0}
  FitAll (p.more_of-Part own rest) = Fits own × FitAll rest

  pub FitNew : {n : _} → p.Row_of-Part-New-1-2 n → Type 0
  FitNew p.end_of-Part-New-1-2 = Unit {0}
  FitNew (p.more_of-Part-New-1-2 key own rest) = Fits own × FitNew rest

  pub FitBody : {n : _} → p.Row_of-Act n → Type 0
  FitBody p.end_of-Act = Unit {0}
  FitBody (p.more_of-Act own rest) = FitAct own × FitBody rest

  pub FitAct : a.Act → Type 0
  FitAct (a.Let x own) = Fits own
  FitAct (a.LetVar x own) = Fits own
  FitAct (a.Set x own) = Fits own
  FitAct (a.Do own) = Fits own
  FitAct (a.Back own) = Fits own

abbrev pub FitActs : List a.Act → Type 0
FitActs [] = Unit {0}
FitActs (own ∷ rest) = FitAct own × FitActs rest

abbrev pub FitBlock : Option TreeBlock → Type 0
FitBlock None = Unit {0}
FitBlock (Some own) = FitActs own.acts

abbrev pub AllFit : Blocks → Type 0
AllFit blocks = (code : CodeKey) (number : ℕ) → FitBlock (blocks code number)

-- a closure to be evaluated is among the arguments
abbrev pub IsGiven : Deed → List Value → Type 0
IsGiven (Evaluates i more) values = 1 ≤ length values
IsGiven (Repeats i) values = 1 ≤ length values
IsGiven what values = Unit {0}

abbrev pub IsGivenBy : Option Deed → List Value → Type 0
IsGivenBy None values = Unit {0}
IsGivenBy (Some what) values = IsGiven what values

abbrev pub AllGiven : World → Type 0
AllGiven world = (number : ℕ) (values : List Value) → IsGivenBy (world.deed number values) values
