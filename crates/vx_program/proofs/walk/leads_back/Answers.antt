use Rattle.std.proofs.Common.{arith, ◌≡◌, ◌++◌, ◌∙◌, refl, sym, ap, subst, true, false, map, ◌+◌, ◌<◌, length, List, [], ◌∷◌, Bor, set}
use Rattle.std.specs.Str.{bytes_eq}
use Rattle.std.proofs.lemmas.List.{nil_from_length, map-append, length-map, length-append, get_or_read_under}
use Rattle.vx_syntax.specs.Expressions.{Bytes}
use Rattle.vx_program.specs.Program.{parents_of, is_named, is_there}
use Rattle.vx_program.proofs.Sought.{stands}
use Rattle.vx_program.proofs.Walks.{Walked, begins, passes_unknown, passes_seen, comes, fewer_come, found, ended}
use Rattle.vx_program.proofs.walk.leads_back.Goals as goal

abbrev names : List (Bor Bytes) → List Bytes
names = map (λ x. x.now)

-- the names that are left before one is taken
taken : (before after : List (Bor Bytes)) (name : Bor Bytes) → before ≡ after ++ name ∷ [] → names before ≡ names after ++ name.now ∷ []
taken before after name e = ap names e ∙ map-append (λ x. x.now) after (name ∷ [])

-- how many names are left where one went and others came
moved : (before between after : List (Bor Bytes)) (name : Bor Bytes) (parents : List Bytes) → before ≡ between ++ name ∷ [] → names after ≡ names between ++ parents →
    length after + 1 ≡ length before + length parents
moved before between after name parents e h =
    omega (arith, ap length e, length-append between (name ∷ []), ap length h, length-map after (λ (x : Bor Bytes). x.now), length-map between (λ (x : Bor Bytes). x.now), length-append (names between) parents)

pub loop-name-init : goal.loop-name-init
loop-name-init c =
    let shape : names c.append.new.left.items ≡ c.args.parents.now = c.in_ok-append.ensures ∙ ap (λ l. names l ++ c.args.parents.now) c.new-left.ensures.items in
    subst (λ ns. Walked c.args.decls.now c.args.parents.now c.args.x.now ns c.in_ok-seen.seen.items) (sym shape)
    (subst (λ s. Walked c.args.decls.now c.args.parents.now c.args.x.now c.args.parents.now s) (sym (c.in_ok-seen.ensures.items_if_clones_equal (λ y e. e)))
    (begins c.args.decls.now c.args.parents.now c.args.x.now c.requires))

-- src/walk.rt:29:13
pub returns-then-eq : goal.returns-then-eq
returns-then-eq c =
    let shape = taken c.loop-name.left.items c.pop.new.self.items c.in-Some.name c.in-Some.ensures.items in
    let same : bytes_eq c.in-Some.name.now c.args.x.now ≡ true = cc (c.eq.ensures, c.bytes.ensures.bytes, c.bytes-in-Some.ensures.bytes, c.if-eq.true) in
    sym (found c.args.decls.now c.args.parents.now c.args.x.now (names c.pop.new.self.items) c.in-Some.name.now c.loop-name.seen.items
    (subst (λ ns. Walked c.args.decls.now c.args.parents.now c.args.x.now ns c.loop-name.seen.items) shape c.loop-name.invariant) same)

pub loop-name-smaller-in-Continue-branch-3 : goal.loop-name-smaller-in-Continue-branch-3
loop-name-smaller-in-Continue-branch-3 c =
    let p = c.in-Some-position_of_name.ensures.some in
    let within : c.in-Some-position_of_name.place < length c.loop-name.seen.items = omega (arith, c.in-Some-position_of_name.ensures.within, c.loop-name.invariant.same) in
    let unseen = sym (get_or_read_under c.loop-name.seen.items c.in-Some-position_of_name.place (length c.loop-name.seen.items) c.index.result.now false c.index.ensures within refl) ∙ c.if-not-index.true in
    let own = stands c.args.decls.now c.in-Some-position_of_name.place p.0 c.index-decls-place.result p.1 c.index-decls-place.is in
    let more : names c.append-then-not-index.new.left.items ≡ names c.pop.new.self.items ++ parents_of p.0 =
    c.in_ok-append-2.ensures ∙ ap (λ ps. names c.pop.new.self.items ++ ps) (c.parents_of.ensures ∙ ap parents_of own) in
    omega (
      arith,
      moved c.loop-name.left.items c.pop.new.self.items c.append-then-not-index.new.left.items c.in-Some.name (parents_of p.0) c.in-Some.ensures.items more,
      fewer_come c.args.decls.now c.loop-name.seen.items c.in-Some-position_of_name.place p.0 p.1 unseen within,
    )

pub loop-name-preserved-in-Continue-branch-3 : goal.loop-name-preserved-in-Continue-branch-3
loop-name-preserved-in-Continue-branch-3 c =
    let shape = taken c.loop-name.left.items c.pop.new.self.items c.in-Some.name c.in-Some.ensures.items in
    let other : bytes_eq c.in-Some.name.now c.args.x.now ≡ false = cc (c.eq.ensures, c.bytes.ensures.bytes, c.bytes-in-Some.ensures.bytes, c.if-eq.false) in
    let p = c.in-Some-position_of_name.ensures.some in
    let within : c.in-Some-position_of_name.place < length c.loop-name.seen.items = omega (arith, c.in-Some-position_of_name.ensures.within, c.loop-name.invariant.same) in
    let own = stands c.args.decls.now c.in-Some-position_of_name.place p.0 c.index-decls-place.result p.1 c.index-decls-place.is in
    let more : names c.append-then-not-index.new.left.items ≡ names c.pop.new.self.items ++ parents_of p.0 =
    c.in_ok-append-2.ensures ∙ ap (λ ps. names c.pop.new.self.items ++ ps) (c.parents_of.ensures ∙ ap parents_of own) in
    subst (λ ns. Walked c.args.decls.now c.args.parents.now c.args.x.now ns (set c.loop-name.seen.items c.in-Some-position_of_name.place true)) (sym more)
    (comes c.args.decls.now c.args.parents.now c.args.x.now (names c.pop.new.self.items) c.in-Some.name.now c.loop-name.seen.items c.in-Some-position_of_name.place p.0
    (subst (λ ns. Walked c.args.decls.now c.args.parents.now c.args.x.now ns c.loop-name.seen.items) shape c.loop-name.invariant) other p.1 (subst (λ z. is_named z p.0 ≡ true) c.bytes-in-Some-2.ensures.bytes p.2) within)

pub loop-name-preserved-else-not-index : goal.loop-name-preserved-else-not-index
loop-name-preserved-else-not-index c =
    let shape = taken c.loop-name.left.items c.pop.new.self.items c.in-Some.name c.in-Some.ensures.items in
    let other : bytes_eq c.in-Some.name.now c.args.x.now ≡ false = cc (c.eq.ensures, c.bytes.ensures.bytes, c.bytes-in-Some.ensures.bytes, c.if-eq.false) in
    let p = c.in-Some-position_of_name.ensures.some in
    let within : c.in-Some-position_of_name.place < length c.loop-name.seen.items = omega (arith, c.in-Some-position_of_name.ensures.within, c.loop-name.invariant.same) in
    let seen = sym (get_or_read_under c.loop-name.seen.items c.in-Some-position_of_name.place (length c.loop-name.seen.items) c.index.result.now false c.index.ensures within refl) ∙ c.if-not-index.false in
    passes_seen c.args.decls.now c.args.parents.now c.args.x.now (names c.pop.new.self.items) c.in-Some.name.now c.loop-name.seen.items c.in-Some-position_of_name.place p.0
    (subst (λ ns. Walked c.args.decls.now c.args.parents.now c.args.x.now ns c.loop-name.seen.items) shape c.loop-name.invariant) other p.1 (subst (λ z. is_named z p.0 ≡ true) c.bytes-in-Some-2.ensures.bytes p.2) seen

pub loop-name-preserved : goal.loop-name-preserved
loop-name-preserved c =
    let shape = taken c.loop-name.left.items c.pop.new.self.items c.in-Some.name c.in-Some.ensures.items in
    let other : bytes_eq c.in-Some.name.now c.args.x.now ≡ false = cc (c.eq.ensures, c.bytes.ensures.bytes, c.bytes-in-Some.ensures.bytes, c.if-eq.false) in
    passes_unknown c.args.decls.now c.args.parents.now c.args.x.now (names c.pop.new.self.items) c.in-Some.name.now c.loop-name.seen.items
    (subst (λ ns. Walked c.args.decls.now c.args.parents.now c.args.x.now ns c.loop-name.seen.items) shape c.loop-name.invariant) other (subst (λ z. is_there c.args.decls.now z ≡ false) c.bytes-in-Some-2.ensures.bytes (c.in_default-position_of_name.ensures.none refl))

pub returns : goal.returns
returns c =
    let none : c.loop-name.left.items ≡ [] = nil_from_length c.loop-name.left.items (omega (arith, c.in_default.ensures.cases)) in
    sym (ended c.args.decls.now c.args.parents.now c.args.x.now c.loop-name.seen.items
    (subst (λ l. Walked c.args.decls.now c.args.parents.now c.args.x.now (names l) c.loop-name.seen.items) none c.loop-name.invariant))
