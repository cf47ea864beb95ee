-- `roots::grow_root` puts a free page above the root.
-- a page by value has 57 words
use borrow.Author.Rules.{rules}
use native.Mathlib.Omega.{arith}
use mathlib.Core.Path.{◌≡◌}
use lib.ListN.{length}
use Rattle.roots.proofs.Roots.{room_first, grow_done}
use Rattle.roots.proofs.grow_root.Goals as goal

pub store_page-requires : goal.store_page-requires
store_page-requires c = let f = room_first _ _ c.requires.2 c.first_free_page-q.ensures in record { img_len = omega arith; le_p = (f.0, f.1) }

pub returns : goal.returns
returns c = let long : length c.inner_single-ws.result ≡ 57 = search rules in grow_done _ _ _ _ _ _ _ _ c.requires.0 (long) c.requires.2 c.first_free_page-q.ensures c.root-old.ensures c.word-tall.ensures c.inner_single-ws.ensures c.store_page.ensures c.set_root.ensures c.set_height.ensures
