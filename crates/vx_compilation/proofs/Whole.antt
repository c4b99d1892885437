-- Compiled code means the program.
use Rattle.std.proofs.Common.{◌≡◌, ℕ, suc, ◌≤◌, List, [], slice_get, Some, refl, sym, ap, ◌∙◌, subst, arith}
use Rattle.vx_lists.specs.Members.{IsIn}
use Rattle.vx_lists.proofs.Places.{in_at}
use Rattle.vx_syntax.specs.declared.decl.Decl.{Decl}
use Rattle.vx_syntax.specs.Expressions.{Bytes}
use Rattle.vx_program.specs.Program.{IsProgram}
use Rattle.vx_model.specs.declared.report.RunError.{RunError}
use Rattle.vx_model.specs.declared.report.Report.TheVariants as r
use Rattle.vx_node.specs.declared.node.Info.TheVariants as i
use Rattle.vx_model.specs.Order.{plain_names}
use Rattle.vx_model.specs.Meaning as mean
use Rattle.vx_model.specs.Meaning.{Back, Fails, Out, Stuck, meaning}
use Rattle.vx_model.specs.Reports.{GoesOn}
use Rattle.vx_compilation.specs.TreeMeaning as trees
use Rattle.vx_compilation.specs.TreeMeaning.{Sends}
use Rattle.vx_compilation.specs.Agrees.{Agrees, Means}
use Rattle.vx_compilation.specs.Compiled.{blocks, world, begun, main_sent, program_tree_meaning, code_report, TreesMeanTheProgram, CompiledCodeMeansTheProgram}
use Rattle.vx_model.proofs.Things.{opening_sound, named_classes}
use Rattle.vx_model.proofs.NeverStuck.{never_stuck}
use Rattle.vx_model.proofs.Further.{goes_on}
use Rattle.vx_compilation.proofs.Relations.{Rel, ExprRel, gives, halts, free}
use Rattle.vx_compilation.proofs.Sending.{call_rel}
use Rattle.vx_compilation.proofs.Calling.{levels_rel}
use Rattle.vx_compilation.proofs.Known.{facts}
use Rattle.vx_compilation.proofs.Fitting.{all_fit, all_given}
use Rattle.vx_compilation.proofs.Coded as c

module _ (program : List Decl) (well : IsProgram program) where
  begun_rel : Rel program [] 0 (mean.begun program) []
  begun_rel = record {
    all = tt;
    homes = tt;
    low = tt;
    from = omega arith;
    plain =
        record { at = λ j x e. is j x (sym (ap (λ (ys : List Bytes). slice_get ys j) (named_classes program (plain_names program))) ∙ e) };
  }
    where
      is : (j : ℕ) (x : Bytes) → slice_get (plain_names program) j ≡ Some x → IsIn x (plain_names program)
      is j x e = in_at (plain_names program) j x e

  report_rel : (d : mean.Done) (d' : trees.Done) → ExprRel program [] 0 0 i.Any [] d d' → ((lines : List Bytes) → mean.report d ≡ r.Stuck lines → ⊥) →
      trees.report d' ≡ mean.report d
  report_rel d d' (gives ls hs same u h) ok = refl
  report_rel d d' (halts {h = Back home v} hs o h) ok = refl
  report_rel d d' (halts {h = Fails e} hs o h) ok = refl
  report_rel d d' (halts {h = Out} hs o h) ok = refl
  report_rel d d' (halts {h = Stuck} hs o h) ok = refl
  report_rel d d' free ok = absurd (ok _ refl)

  -- the trees of a program mean the program
  pub same_meaning : (n : ℕ) → program_tree_meaning program n ≡ meaning program n
  unfolding program_tree_meaning trees.tree_meaning meaning
  same_meaning n =
      report_rel _ _ (call_rel program well (facts program well) [] 0 0 [] (mean.allowance program n) (trees.levels (world program) (blocks program) n)
      (levels_rel program well (facts program well) n) main_sent [] (mean.begun program) [] (opening_sound program well) tt begun_rel)
      (λ lines e. never_stuck program n lines well e)

  -- what the trees mean, before its name
  same_tree : (n : ℕ) → trees.tree_meaning (world program) (blocks program) (begun program) main_sent n ≡ meaning program n
  unfolding program_tree_meaning
  same_tree n = same_meaning n

  tree_never_stuck : c.NeverStuck (world program) (all_given program) (blocks program) (all_fit program well (facts program well)) (begun program) main_sent
  tree_never_stuck n lines e = never_stuck program n lines well (sym (same_tree n) ∙ e)

  ended : (n k : ℕ) (lines : List Bytes) → n ≤ k → meaning program n ≡ r.End lines → meaning program k ≡ r.End lines
  ended n k lines le e = subst (λ z. GoesOn z (meaning program k)) e (goes_on program n k le)

  failed : (n k : ℕ) (lines : List Bytes) (error : RunError) → n ≤ k → meaning program n ≡ r.Error lines error → meaning program k ≡ r.Error lines error
  failed n k lines error le e = subst (λ z. GoesOn z (meaning program k)) e (goes_on program n k le)

  whole : Means (code_report program) (meaning program)
  unfolding code_report
  whole = record {
    agrees = λ n. subst (λ z. Agrees (code_report program n) z) (same_tree (suc n))
        (c.looked_agree (world program) (all_given program) (blocks program) (all_fit program well (facts program well))
        (begun program) main_sent tree_never_stuck n);
    ends = λ n lines e. c.come_to_end (world program) (all_given program) (blocks program) (all_fit program well (facts program well))
        (begun program) main_sent tree_never_stuck n lines (same_tree n ∙ e);
    fails = λ n lines error e. c.come_to_error (world program) (all_given program) (blocks program) (all_fit program well (facts program well))
        (begun program) main_sent tree_never_stuck n lines error (same_tree n ∙ e);
    ended = ended;
    failed = failed;
  }

pub trees_mean : TreesMeanTheProgram
trees_mean program well n = same_meaning program well n

pub compiled_code_means : CompiledCodeMeansTheProgram
compiled_code_means program well = whole program well
