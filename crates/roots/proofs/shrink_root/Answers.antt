-- `roots::shrink_root` lets the root's only child be the root.
use Rattle.roots.proofs.Roots.{shrink_done}
use Rattle.roots.proofs.shrink_root.Goals as goal

pub returns : goal.returns
returns c = shrink_done _ _ _ _ _ _ _ c.requires c.root-old.ensures c.child-child.ensures c.word-tall.ensures c.free_page.ensures c.set_root.ensures c.set_height.ensures
