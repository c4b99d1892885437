use Rattle.std.proofs.Common.{◌≡◌, Less, Greater}
use Rattle.vx_node.specs.Nodes.{node_cmp}
use Rattle.vx_node.proofs.Placing.{less_apart, greater_apart}
use Rattle.vx_node.proofs.trace.is_of.Goals as goal

pub returns-in-Less-clause-no : goal.returns-in-Less-clause-no
returns-in-Less-clause-no c other same =
    let e : node_cmp c.args.step.now.node c.args.node.now ≡ Less = cc in less_apart c.args.step.now.node c.args.node.now e same

pub returns-in-Greater-clause-no : goal.returns-in-Greater-clause-no
returns-in-Greater-clause-no c other same =
    let e : node_cmp c.args.step.now.node c.args.node.now ≡ Greater = cc in greater_apart c.args.step.now.node c.args.node.now e same
