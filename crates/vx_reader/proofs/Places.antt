-- Tokens without their places.
use Rattle.std.proofs.Common.{◌≡◌, ℕ, ◌<◌, List, length, drop, get_or, sym, ◌∙◌, ap}
use Rattle.std.proofs.lemmas.List.{get_or-map, length-map, drop-map}
use Rattle.vx_reader.specs.declared.token.Placed.{Placed}
use Rattle.vx_reader.specs.Tokens.{without_places}

pub token_at : (placed : List Placed) (n : ℕ) (x : Placed) → n < length placed → x ≡ get_or placed n x → x.token ≡ get_or (without_places placed) n x.token
token_at placed n x within is = ap (λ p. p.token) is ∙ sym (get_or-map (λ p. p.token) placed n x x.token within)

pub as_many : (placed : List Placed) → length (without_places placed) ≡ length placed
as_many placed = length-map placed (λ p. p.token)

pub left : (n : ℕ) (placed : List Placed) → drop n (without_places placed) ≡ without_places (drop n placed)
left n placed = drop-map (λ p. p.token) n placed
