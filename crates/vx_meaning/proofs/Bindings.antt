-- Names in scope, sought from the innermost.
use Rattle.std.proofs.Common.{◌≡◌, ◌∙◌, ℕ, List, [], ◌∷◌, ◌<◌, ◌+◌, length, reverse, take, get_or, sym, ap, Some, if◌then◌else◌}
use Rattle.std.proofs.lemmas.List.{take_more, reverse-append}
use Rattle.std.specs.Str.{bytes_eq}
use Rattle.vx_syntax.specs.Expressions.{Bytes}
use Rattle.vx_model.specs.declared.value.Local.{Local}
use Rattle.vx_model.specs.Meaning.{bound}

-- the binding behind i others is the innermost of i + 1
pub innermost : (name : Bytes) (own : List (Bytes × Local)) (i : ℕ) (one : Bytes × Local) → i < length own → one ≡ get_or own i one →
    bound name (reverse (take (i + 1) own)) ≡ (if bytes_eq one.0 name then Some one.1 else bound name (reverse (take i own)))
innermost name own i one lt at =
    ap (λ l. bound name (reverse l)) (take_more own i one lt) ∙ ap (bound name) (reverse-append (take i own) (get_or own i one ∷ []))
    ∙ ap (λ o. if bytes_eq o.0 name then Some o.1 else bound name (reverse (take i own))) (sym at)
