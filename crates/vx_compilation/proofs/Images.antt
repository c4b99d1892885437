-- What an image is to show: a machine that is alike the code of a program by names means the program.
use Rattle.std.proofs.Common.{◌≡◌, ℕ, suc, List, [], sym, ◌∙◌, subst}
use Rattle.vx_syntax.specs.declared.decl.Decl.{Decl}
use Rattle.vx_program.specs.Program.{IsProgram}
use Rattle.vx_model.specs.declared.report.Report.{Report}
use Rattle.vx_model.specs.Meaning.{meaning}
use Rattle.vx_compilation.specs.Agrees.{Agrees, Means}
use Rattle.vx_compilation.specs.Activations.{Symbols, State, World, Target}
use Rattle.vx_compilation.specs.TreeMeaning.{by_name}
use Rattle.vx_compilation.specs.Machine.{Codes, run_report}
use Rattle.vx_compilation.specs.Code.{codes_of}
use Rattle.vx_compilation.specs.Compiled.{blocks, world, begun, dispatch, main_sent, code_report}
use Rattle.vx_compilation.specs.Alike.{Matching, TargetAlike, Alike}
use Rattle.vx_compilation.proofs.SameReports.{StateAlike, same_report}
use Rattle.vx_compilation.proofs.Whole.{compiled_code_means}

-- equal reports mean the same
pub means_same : (one other meanings : ℕ → Report) → ((n : ℕ) → one n ≡ other n) → Means one meanings → Means other meanings
means_same one other meanings same m = record {
  agrees = λ n. subst (λ z. Agrees z (meanings (suc n))) (same n) (m.agrees n);
  ends = λ n lines e. let a = m.ends n lines e in (a.0, λ k le. sym (same k) ∙ a.1 k le);
  fails = λ n lines error e. let a = m.fails n lines error e in (a.0, λ k le. sym (same k) ∙ a.1 k le);
  ended = m.ended;
  failed = m.failed;
}

module _ (program : List Decl) (well : IsProgram program) (z : Symbols) (c : Matching by_name z) (w : World z) (codes : Codes z)
    (alike : Alike c (world program) w (codes_of (blocks program)) codes)
    (opening : State z) (main : Target z) (begins : StateAlike by_name z c (begun program) opening)
    (sends : TargetAlike c (dispatch program (begun program).objects main_sent []) main)
  where
    pub reports_same : (n : ℕ) → code_report program n ≡ run_report w codes opening main n
    unfolding code_report
    reports_same n = same_report by_name z c (world program) w (codes_of (blocks program)) codes alike (begun program) opening
        (dispatch program (begun program).objects main_sent []) main begins sends n

    pub image_means : Means (run_report w codes opening main) (meaning program)
    image_means = means_same (code_report program) (run_report w codes opening main) (meaning program) reports_same (compiled_code_means program well)
