-- What questionings come to depends on the answers to what they ask alone.
use Rattle.std.proofs.Common.{ap, inl, inr, refl, subst, sym, ◌++◌, ◌∙◌, ◌∷◌, ◌≡◌}
use Rattle.vx_lists.specs.Members.{IsIn}
use Rattle.vx_node.specs.declared.node.NodeId.{NodeId}
use Rattle.vx_node.specs.Traces.{Answers}
use Rattle.vx_node.specs.Asking.{Asking, gives, mixes, asks, Gives, Mixes, outcome, asked, followed, SameAnswers}

pub same_outcome : {A : Type 0} (q : Asking A) (first second : Answers) → SameAnswers q first second → outcome q second ≡ outcome q first
same_outcome (gives value) first second same = refl
same_outcome (mixes node) first second same = refl
same_outcome (asks node next) first second same =
    let e = same node (inl refl) (inl refl) in
    ap (λ answer. outcome (next answer) second) e
    ∙ same_outcome (next (first node)) first second (λ other i j. same other (inr i) (inr (subst (λ answer. IsIn other (asked (next answer) second)) (sym e) j)))

pub same_asked : {A : Type 0} (q : Asking A) (first second : Answers) → SameAnswers q first second → asked q second ≡ asked q first
same_asked (gives value) first second same = refl
same_asked (mixes node) first second same = refl
same_asked (asks node next) first second same =
    let e = same node (inl refl) (inl refl) in
    ap (λ answer. node ∷ asked (next answer) second) e
    ∙ ap (λ nodes. node ∷ nodes)
    (same_asked (next (first node)) first second (λ other i j. same other (inr i) (inr (subst (λ answer. IsIn other (asked (next answer) second)) (sym e) j))))

-- where the first gives a value, what follows it goes on from there
pub followed_outcome : {A B : Type 0} (q : Asking A) (go : A → Asking B) (answer : Answers) (value : A) → outcome q answer ≡ Gives value →
    outcome (followed q go) answer ≡ outcome (go value) answer
followed_outcome (gives own) go answer value e = let same : own ≡ value = cc in ap (λ v. outcome (go v) answer) same
followed_outcome (mixes node) go answer value e = absurd (cc)
followed_outcome (asks node next) go answer value e = followed_outcome (next (answer node)) go answer value e

pub followed_asked : {A B : Type 0} (q : Asking A) (go : A → Asking B) (answer : Answers) (value : A) → outcome q answer ≡ Gives value →
    asked (followed q go) answer ≡ asked q answer ++ asked (go value) answer
followed_asked (gives own) go answer value e = let same : own ≡ value = cc in ap (λ v. asked (go v) answer) same
followed_asked (mixes node) go answer value e = absurd (cc)
followed_asked (asks node next) go answer value e = ap (λ nodes. node ∷ nodes) (followed_asked (next (answer node)) go answer value e)

-- where the first gives up, so does what follows it
pub mixed_outcome : {A B : Type 0} (q : Asking A) (go : A → Asking B) (answer : Answers) (at : NodeId) → outcome q answer ≡ Mixes at →
    outcome (followed q go) answer ≡ Mixes at
mixed_outcome (gives own) go answer at e = absurd (cc)
mixed_outcome (mixes node) go answer at e = let same : node ≡ at = cc in ap Mixes same
mixed_outcome (asks node next) go answer at e = mixed_outcome (next (answer node)) go answer at e

pub mixed_asked : {A B : Type 0} (q : Asking A) (go : A → Asking B) (answer : Answers) (at : NodeId) → outcome q answer ≡ Mixes at →
    asked (followed q go) answer ≡ asked q answer
mixed_asked (gives own) go answer at e = absurd (cc)
mixed_asked (mixes node) go answer at e = refl
mixed_asked (asks node next) go answer at e = ap (λ nodes. node ∷ nodes) (mixed_asked (next (answer node)) go answer at e)
