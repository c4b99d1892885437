-- A block that adds a declaration by its canonical text means that addition.
use Rattle.std.proofs.Common.{◌≡◌, false, List, [], ◌∷◌, ◌++◌, codes, Ok, refl, sym, subst}
use Rattle.vx_syntax.specs.declared.token.Token.{Token}
use Rattle.vx_syntax.specs.declared.token.Token.TheVariants as k
use Rattle.vx_syntax.specs.declared.decl.Decl.{Decl}
use Rattle.vx_syntax.specs.Declarations.{add_word, IsDecl}
use Rattle.vx_syntax.specs.Depth.{first_levels, IsShallow}
use Rattle.vx_syntax.specs.Print.{decl_text}
use Rattle.vx_syntax.specs.PrintedTokens.{printed_decl}
use Rattle.vx_syntax.specs.Words.{IsMeant, AreMeant}
use Rattle.vx_syntax.specs.Written.{IsDeclWritten}
use Rattle.vx_program.specs.declared.edit.Change.TheVariants.{Add}
use Rattle.vx_program.specs.Changes.{last_decl, adds, last_change}
use Rattle.vx_reader.specs.declared.command.Command.TheVariants as c
use Rattle.vx_reader.specs.Commands.{edit}
use Rattle.vx_reader.specs.Reads.{is_large_token, AreSmall, Means, Reads}
use Rattle.vx_reader.proofs.CutDecls.{addition_cut}

small : (token : Token) → IsMeant token → is_large_token token ≡ false
small (k.Word x) h = refl
small (k.Keyword x) h = refl
small (k.Number n) h = h
small (k.Text bytes) h = refl
small (k.Operator x) h = refl
small (k.Mark x) h = refl
small k.Bad h = refl

all_small : (ts : List Token) → AreMeant ts → AreSmall ts
all_small [] h = tt
all_small (token ∷ ts) h = (small token h.0, all_small ts h.1)

-- by what the canonical tokens of the declaration mean, that bytes spell them, and that they lie nowhere too deep
pub addition_read : (decl : Decl) → IsDeclWritten decl → IsDecl (printed_decl decl []) [] decl → AreMeant (printed_decl decl []) →
    IsShallow first_levels (k.Word add_word ∷ printed_decl decl []) → Reads (codes "add " ++ decl_text decl) (Ok (c.Edit (record { changes = Add decl ∷ [] })))
addition_read decl h read meant shallow =
    subst (λ ts. Means ts (c.Edit (record { changes = Add decl ∷ [] }))) (sym (addition_cut decl h)) (record {
      command = edit (last_change (adds (last_decl read)));
      shallow = shallow;
      small = (refl, all_small (printed_decl decl []) meant);
    })
