-- The code of trees means the trees, where their meaning is never stuck.
use Rattle.std.proofs.Common.{◌≡◌, ℕ, zero, suc, ◌≤◌, List, [], length, None, refl, sym, ap, ◌∙◌, subst, ⊎_elim, arith}
use Rattle.std.proofs.lemmas.Bool.{cases_lt}
use Rattle.vx_syntax.specs.Expressions.{Bytes}
use Rattle.vx_model.specs.declared.report.RunError.{RunError}
use Rattle.vx_model.specs.declared.report.Report.{Report}
use Rattle.vx_model.specs.declared.report.Report.TheVariants as reports
use Rattle.vx_model.specs.Reports.{GoesOn}
use Rattle.vx_model.specs.Meaning.{Back, Fails, Out, Stuck}
use Rattle.vx_compilation.specs.TreeMeaning as trees
use Rattle.vx_compilation.specs.TreeMeaning.{by_name, World, State, Blocks, Sent, Message, Ended, Gives, Ends, back_to, levels, tree_meaning}
use Rattle.vx_compilation.specs.Machine.{run_report, reaches}
use Rattle.vx_compilation.specs.Code.{codes_of}
use Rattle.vx_compilation.specs.Fits.{AllFit, AllGiven}
use Rattle.vx_compilation.specs.Agrees.{Agrees}
use Rattle.vx_compilation.proofs.Steps.{Runs}
use Rattle.vx_compilation.proofs.Runs.{reach_runs, levels_good}
use Rattle.vx_compilation.proofs.Longer.{ran, report_longer, looking}

module _ (w : World) (given : AllGiven w) (bs : Blocks) (fit : AllFit bs) (begun : State) (main : Sent) where
  -- the reports without a look ahead, which give those with one
  abbrev coded : ℕ → Report
  coded n = ran w (codes_of bs) n begun (reaches w (codes_of bs) (w.dispatch begun.objects main []) [] [] begun)

  abbrev pub looked : ℕ → Report
  looked = run_report w (codes_of bs) begun (w.dispatch begun.objects main [])

  abbrev meant : ℕ → Report
  meant = tree_meaning w bs begun main

  -- what the meaning with f calls says of the code
  abbrev Follows : ℕ → Report → Type 0
  Follows f (reports.End lines) = (n : ℕ) × (coded n ≡ reports.End lines)
  Follows f (reports.Error lines error) = (n : ℕ) × (coded n ≡ reports.Error lines error)
  Follows f (reports.Unfinished lines) = (n : ℕ) × (f ≤ n) × (coded n ≡ reports.Unfinished lines)
  Follows f (reports.Stuck lines) = (n : ℕ) × (coded n ≡ reports.Stuck lines)

  follows_from : (g : ℕ) (o : Ended) → Runs w bs (λ j. coded (suc j)) 0 1 (suc g) (λ h. None) (λ v ls. []) (back_to [] o) →
      Follows (suc g) (trees.report (back_to [] o))
  follows_from g (Gives v x) r = let a = r 0 in (suc a.0, a.2)
  follows_from g (Ends (Back h v) x) r = let a = r 0 in (suc a.0, a.2)
  follows_from g (Ends (Fails e) x) r = (suc r.0, r.1)
  follows_from g (Ends Out x) r = (suc r.0, omega (arith, r.1), r.2)
  follows_from g (Ends Stuck x) r = (suc r.0, r.1)

  length_levels : (g : ℕ) → length (levels w bs g) ≡ g
  unfolding levels
  length_levels zero = refl
  length_levels (suc g) = ap suc (length_levels g)

  follows : (f : ℕ) → Follows f (meant f)
  unfolding levels tree_meaning
  follows zero = (0, omega arith, refl)
  follows (suc g) =
      let lower = levels w bs g in
      let o = trees.reached w bs lower (w.dispatch begun.objects main []) [] begun in
      let r = reach_runs w bs fit given (w.dispatch begun.objects main []) [] lower (levels_good w bs fit given g) [] [] begun in
      follows_from g o (subst (λ n. Runs w bs (λ j. coded (suc j)) 0 1 (suc n) (λ h. None) (λ v ls. []) (back_to [] o)) (length_levels g) r)

  longer : (n n' : ℕ) → n ≤ n' → GoesOn (coded n) (coded n')
  longer n n' le = report_longer by_name w (codes_of bs) begun (w.dispatch begun.objects main []) n n' le

  -- once over, over
  stays : (n n' : ℕ) (r : Report) → n ≤ n' → coded n ≡ r → GoesOn r (coded n')
  stays n n' r le e = subst (λ x. GoesOn x (coded n')) e (longer n n' le)

  abbrev pub NeverStuck : Type 0
  NeverStuck = (f : ℕ) (lines : List Bytes) → meant f ≡ reports.Stuck lines → ⊥

  earlier : (r later : Report) → ((lines : List Bytes) → later ≡ reports.Stuck lines → ⊥) → GoesOn r later → Agrees r later
  earlier (reports.End lines) later ok h = h
  earlier (reports.Error lines error) later ok h = h
  earlier (reports.Unfinished lines) later ok h = h
  earlier (reports.Stuck lines) later ok h = ok lines h

  agrees_from : (n : ℕ) (r : Report) → ((lines : List Bytes) → r ≡ reports.Stuck lines → ⊥) → Follows (suc n) r → Agrees (coded n) r
  agrees_from n (reports.End lines) ok f =
      ⊎_elim (λ lt. earlier (coded n) (reports.End lines) ok (subst (λ x. GoesOn (coded n) x) f.1 (longer n f.0 (omega arith))))
      (λ le. subst (λ x. Agrees x (reports.End lines)) (sym (stays f.0 n (reports.End lines) le f.1)) refl) (cases_lt n f.0)
  agrees_from n (reports.Error lines error) ok f =
      ⊎_elim (λ lt. earlier (coded n) (reports.Error lines error) ok (subst (λ x. GoesOn (coded n) x) f.1 (longer n f.0 (omega arith))))
      (λ le. subst (λ x. Agrees x (reports.Error lines error)) (sym (stays f.0 n (reports.Error lines error) le f.1)) refl) (cases_lt n f.0)
  agrees_from n (reports.Unfinished lines) ok f = earlier (coded n) (reports.Unfinished lines) ok
      (subst (λ x. GoesOn (coded n) x) f.2 (longer n f.0 (omega (arith, f.1))))
  agrees_from n (reports.Stuck lines) ok f = absurd (ok lines refl)

  agree : NeverStuck → (n : ℕ) → Agrees (coded n) (meant (suc n))
  agree ok n = agrees_from n (meant (suc n)) (ok (suc n)) (follows (suc n))

  not_stuck : (r later : Report) → Agrees r later → (lines : List Bytes) → r ≡ reports.Stuck lines → ⊥
  not_stuck (reports.Stuck lines) later a other same = absurd a
  not_stuck (reports.End lines) later a other same = cc
  not_stuck (reports.Error lines error) later a other same = cc
  not_stuck (reports.Unfinished lines) later a other same = cc

  looks : NeverStuck → (n : ℕ) → coded n ≡ looked n
  looks ok n = looking by_name w (codes_of bs) n begun _ (not_stuck (coded (suc n)) (meant (suc (suc n))) (agree ok (suc n)))

  pub looked_agree : NeverStuck → (n : ℕ) → Agrees (looked n) (meant (suc n))
  looked_agree ok n = subst (λ x. Agrees x (meant (suc n))) (looks ok n) (agree ok n)

  pub come_to_end : NeverStuck → (f : ℕ) (lines : List Bytes) → meant f ≡ reports.End lines → (m : ℕ) × ((k : ℕ) → m ≤ k → looked k ≡ reports.End lines)
  come_to_end ok f lines e = let a = subst (Follows f) e (follows f) in (a.0, λ n le. sym (looks ok n) ∙ stays a.0 n (reports.End lines) le a.1)

  pub come_to_error : NeverStuck → (f : ℕ) (lines : List Bytes) (error : RunError) → meant f ≡ reports.Error lines error →
      (m : ℕ) × ((k : ℕ) → m ≤ k → looked k ≡ reports.Error lines error)
  come_to_error ok f lines error e = let a = subst (Follows f) e (follows f) in (a.0, λ n le. sym (looks ok n) ∙ stays a.0 n (reports.Error lines error) le a.1)
