use Rattle.std.proofs.Common.{refl}
use Rattle.vx_names.specs.declared.operator.Operator.TheVariants as o
use Rattle.vx_names.specs.Operator.{operator_of}
use Rattle.vx_syntax.specs.declared.token.Token.TheVariants as k
use Rattle.vx_syntax.specs.declared.token.Mark.TheVariants as m
use Rattle.vx_syntax.specs.Words.{mark}
use Rattle.vx_reader.proofs.CutSigns.{alone}
use Rattle.vx_reader.proofs.sign.lone_sign.Goals as goal

pub returns-in-40 : goal.returns-in-40
unfolding mark operator_of
returns-in-40 c = λ rest. rw c.in-40.is (alone 40 rest (k.Mark m.Open) refl (λ b. refl) (λ b d. refl))

pub returns-in-41 : goal.returns-in-41
unfolding mark operator_of
returns-in-41 c = λ rest. rw c.in-41.is (alone 41 rest (k.Mark m.Close) refl (λ b. refl) (λ b d. refl))

pub returns-in-123 : goal.returns-in-123
unfolding mark operator_of
returns-in-123 c = λ rest. rw c.in-123.is (alone 123 rest (k.Mark m.OpenBlock) refl (λ b. refl) (λ b d. refl))

pub returns-in-125 : goal.returns-in-125
unfolding mark operator_of
returns-in-125 c = λ rest. rw c.in-125.is (alone 125 rest (k.Mark m.CloseBlock) refl (λ b. refl) (λ b d. refl))

pub returns-in-44 : goal.returns-in-44
unfolding mark operator_of
returns-in-44 c = λ rest. rw c.in-44.is (alone 44 rest (k.Mark m.Comma) refl (λ b. refl) (λ b d. refl))

pub returns-in-59 : goal.returns-in-59
unfolding mark operator_of
returns-in-59 c = λ rest. rw c.in-59.is (alone 59 rest (k.Mark m.Semicolon) refl (λ b. refl) (λ b d. refl))

pub returns-in-64 : goal.returns-in-64
unfolding mark operator_of
returns-in-64 c = λ rest. rw c.in-64.is (alone 64 rest (k.Mark m.At) refl (λ b. refl) (λ b d. refl))

pub returns-in-38 : goal.returns-in-38
unfolding mark operator_of
returns-in-38 c = λ rest. rw c.in-38.is (alone 38 rest (k.Mark m.Ampersand) refl (λ b. refl) (λ b d. refl))

pub returns-in-94 : goal.returns-in-94
unfolding mark operator_of
returns-in-94 c = λ rest. rw c.in-94.is (alone 94 rest (k.Mark m.Caret) refl (λ b. refl) (λ b d. refl))

pub returns-in-45 : goal.returns-in-45
unfolding mark operator_of
returns-in-45 c = λ rest. rw c.in-45.is (alone 45 rest (k.Operator o.Minus) refl (λ b. refl) (λ b d. refl))

pub returns-in-42 : goal.returns-in-42
unfolding mark operator_of
returns-in-42 c = λ rest. rw c.in-42.is (alone 42 rest (k.Operator o.Star) refl (λ b. refl) (λ b d. refl))

pub returns-in-47 : goal.returns-in-47
unfolding mark operator_of
returns-in-47 c = λ rest. rw c.in-47.is (alone 47 rest (k.Operator o.Slash) refl (λ b. refl) (λ b d. refl))

pub returns-in-37 : goal.returns-in-37
unfolding mark operator_of
returns-in-37 c = λ rest. rw c.in-37.is (alone 37 rest (k.Operator o.Percent) refl (λ b. refl) (λ b d. refl))
