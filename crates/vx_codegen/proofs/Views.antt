-- The code of a part with a list, over the list.
use Rattle.std.proofs.Common.{◌≡◌, ◌∙◌, ◌∷◌, List, ℕ, Option, refl, ap, map}
use Rattle.vx_names.specs.declared.key.Selector.{Selector}
use Rattle.vx_names.specs.declared.key.MethodKey.{MethodKey}
use Rattle.vx_names.specs.declared.key.FieldKey.{FieldKey}
use Rattle.vx_syntax.specs.Expressions.{Bytes}
use Rattle.vx_syntax.proofs.Views.{the_items_is}
use Rattle.vx_node.specs.declared.node.Variant.{Variant}
use Rattle.vx_model.specs.declared.report.RunError.{RunError}
use Rattle.vx_compilation.specs.declared.tree.Act.{Act}
use Rattle.vx_compilation.specs.declared.tree.Part.{Row_of-Act, end_of-Act, more_of-Act, items-the_row-Act}
use Rattle.vx_compilation.specs.declared.tree.Part.{Part, Row_of-Part, end_of-Part, more_of-Part, items-the_row-Part}
use Rattle.vx_compilation.specs.declared.tree.Part.{Row_of-Part-New-1-2, end_of-Part-New-1-2, more_of-Part-New-1-2, items-the_row-Part-New-1-2}
use Rattle.vx_compilation.specs.declared.tree.Part.TheVariants as p
use Rattle.vx_compilation.specs.declared.tree.Act.TheBlock.{hidden-the_row-Part-New-1-2-0, hidden-the_row-Part-1, hidden-the_row-Act-2}
use Rattle.vx_compilation.specs.declared.tree.Part.{items_hidden-the_row-Part-New-1-2-0, items_hidden-the_row-Part-1, items_hidden-the_row-Act-2}
use Rattle.vx_compilation.specs.TreeMeaning.{Sends, Resends, field_keys}
use Rattle.vx_compilation.specs.Machine as machine
use Rattle.vx_compilation.specs.Code.{Instructions, part_code, parts_code, new_code, body_code, statement_code, calling, in_order, inlined_code}

parts_row : {n : _} (row : Row_of-Part n) → parts_code row ≡ map part_code (items-the_row-Part n row)
parts_row end_of-Part = refl
parts_row (more_of-Part own rest) = ap (λ codes. part_code own ∷ codes) (parts_row rest)

values_row : {n : _} (row : Row_of-Part-New-1-2 n) → new_code row ≡ map (λ field. part_code field.1) (items-the_row-Part-New-1-2 n row)
values_row end_of-Part-New-1-2 = refl
values_row (more_of-Part-New-1-2 key own rest) = ap (λ codes. part_code own ∷ codes) (values_row rest)

keys_row : {n : _} (row : Row_of-Part-New-1-2 n) → field_keys row ≡ map (λ field. field.0) (items-the_row-Part-New-1-2 n row)
keys_row end_of-Part-New-1-2 = refl
keys_row (more_of-Part-New-1-2 key own rest) = ap (λ keys. key ∷ keys) (keys_row rest)

acts_row : {n : _} (row : Row_of-Act n) → body_code row ≡ map statement_code (items-the_row-Act n row)
acts_row end_of-Act = refl
acts_row (more_of-Act own rest) = ap (λ codes. statement_code own ∷ codes) (acts_row rest)

-- a list that is hidden in its row
listed : (parts : List Part) → parts_code (hidden-the_row-Part-1 parts) ≡ map part_code parts
listed parts = parts_row (hidden-the_row-Part-1 parts) ∙ ap (map part_code) (items_hidden-the_row-Part-1 parts ∙ the_items_is Part parts)

fields_listed : (fields : List (FieldKey × Part)) → items-the_row-Part-New-1-2 _ (hidden-the_row-Part-New-1-2-0 fields) ≡ fields
fields_listed fields = items_hidden-the_row-Part-New-1-2-0 fields ∙ the_items_is _ fields

pub send_code : (selector : Selector) (parts : List Part) (following : Instructions) →
    part_code (p.Send selector parts) following ≡ calling (map part_code parts) (machine.Send (Sends selector)) following
send_code selector parts following = ap (λ codes. calling codes (machine.Send (Sends selector)) following) (listed parts)

pub resend_code : (method : MethodKey) (row : Option ℕ) (parts : List Part) (following : Instructions) →
    part_code (p.Resend method row parts) following ≡ calling (map part_code parts) (machine.Send (Resends method row)) following
resend_code method row parts following = ap (λ codes. calling codes (machine.Send (Resends method row)) following) (listed parts)

pub primitive_code : (number : ℕ) (parts : List Part) (following : Instructions) →
    part_code (p.Prim number parts) following ≡ calling (map part_code parts) (machine.Perform number) following
primitive_code number parts following = ap (λ codes. calling codes (machine.Perform number) following) (listed parts)

pub get_code : (field : FieldKey) (parts : List Part) (following : Instructions) →
    part_code (p.Get field parts) following ≡ calling (map part_code parts) (machine.Get field) following
get_code field parts following = ap (λ codes. calling codes (machine.Get field) following) (listed parts)

pub set_code : (field : FieldKey) (parts : List Part) (following : Instructions) →
    part_code (p.Set field parts) following ≡ calling (map part_code parts) (machine.Set field) following
set_code field parts following = ap (λ codes. calling codes (machine.Set field) following) (listed parts)

pub call_code : (method : MethodKey) (variant : Variant) (parts : List Part) (following : Instructions) →
    part_code (p.Call method variant parts) following
    ≡ calling (map part_code parts) (machine.Enter (record { method = method; variant = variant })) following
call_code method variant parts following =
    ap (λ codes. calling codes (machine.Enter (record { method = method; variant = variant })) following) (listed parts)

pub fail_code : (error : RunError) (parts : List Part) (following : Instructions) →
    part_code (p.Fail error parts) following ≡ in_order (map part_code parts) (machine.Fail error ∷ following)
fail_code error parts following = ap (λ codes. in_order codes (machine.Fail error ∷ following)) (listed parts)

pub inlined_view : (parts : List Part) (xs : List ℕ) (acts : List Act) (following : Instructions) →
    part_code (p.Inlined parts xs acts) following ≡ inlined_code (map part_code parts) xs (map statement_code acts) following
inlined_view parts xs acts following =
    ap (λ codes. inlined_code codes xs (body_code (hidden-the_row-Act-2 acts)) following) (listed parts)
    ∙ ap (λ body. inlined_code (map part_code parts) xs body following)
    (acts_row (hidden-the_row-Act-2 acts) ∙ ap (map statement_code) (items_hidden-the_row-Act-2 acts ∙ the_items_is Act acts))

pub new_view : (class : Bytes) (fields : List (FieldKey × Part)) (following : Instructions) →
    part_code (p.New class fields) following
    ≡ calling (map (λ field. part_code field.1) fields) (machine.Make class (map (λ field. field.0) fields)) following
new_view class fields following =
    ap (λ codes. calling codes (machine.Make class (field_keys (hidden-the_row-Part-New-1-2-0 fields))) following)
    (values_row (hidden-the_row-Part-New-1-2-0 fields) ∙ ap (map (λ field. part_code field.1)) (fields_listed fields))
    ∙ ap (λ keys. calling (map (λ field. part_code field.1) fields) (machine.Make class keys) following)
    (keys_row (hidden-the_row-Part-New-1-2-0 fields) ∙ ap (map (λ field. field.0)) (fields_listed fields))
