-- Steps one behind the other; a whole tree that stands, by what lies in the words and by the rules.
-- Assumes nothing.
use Prim.Native.Nat.{ℕ}
use mathlib.Core.Path.{◌≡◌, sym, ◌∙◌, subst}
use mathlib.Core.List.{List, append-nil}
use lib.Dec.{T}
use Rattle.words.specs.Lists.{All, Pairs}
use Rattle.regions.specs.declared.Region.{Region}
use Rattle.xrtree.specs.Tree.{Tree, regions, leaves, page_places, record_places}
use Rattle.xrtree.specs.Rules.{linked}
use Rattle.xrtree.specs.Claims.{Over, Fits, Proper}
use Rattle.xrtree.specs.Local.{Here, Part}
use Rattle.xrtree.proofs.Here.{here_all}
use Rattle.pages.specs.Layout.{page_used, record_used}
use Rattle.standing.specs.Stands.{top, nothing_around, Places, Stands}
use Rattle.entries.specs.Lies.{Lies, Stepped}

pub stepped_then : (w w₁ w₂ : List ℕ) (h : ℕ) (t t₁ t₂ : Tree h) → Stepped w w₁ h t t₁ → Stepped w₁ w₂ h t₁ t₂ → Stepped w w₂ h t t₂
stepped_then w w₁ w₂ h t t₁ t₂ a b =
    record {
      lies = b.lies;
      place = b.place ∙ a.place;
      pages = b.pages ∙ a.pages;
      root = b.root ∙ a.root;
      height = b.height ∙ a.height;
      shares = b.shares ∙ a.shares;
    }

-- A WHOLE TREE that stands lies in the words, and back
pub lies_of : (w : List ℕ) (rs : List Region) (h : ℕ) (t : Tree h) → Stands w rs h 0 top t nothing_around → Lies w h t
lies_of w rs h t s =
    record {
      long = s.long;
      held = s.held;
      roomy = s.roomy;
      links = subst (λ l. T (linked l)) (append-nil (leaves h t)) s.links;
      pages = subst (Places (page_used w) 160) (append-nil (page_places h t)) s.pages;
      records = subst (Places (record_used w) 500) (append-nil (record_places h t)) s.records;
    }

pub stands_of : (w : List ℕ) (rs : List Region) (h : ℕ) (t : Tree h) → Lies w h t → Part rs h 0 top t → regions h t ≡ rs → Proper top rs → Stands w rs h 0 top t nothing_around
stands_of w rs h t a p e m =
    record {
      long = a.long;
      held = a.held;
      roomy = a.roomy;
      part = p;
      near = subst (Here rs 0 top) (sym e) (here_all rs 0 top);
      pairs = subst (Pairs Over) (sym e) m.pairs;
      well = subst (All (Fits top)) (sym e) m.well;
      links = subst (λ l. T (linked l)) (sym (append-nil (leaves h t))) a.links;
      pages = subst (Places (page_used w) 160) (sym (append-nil (page_places h t))) a.pages;
      records = subst (Places (record_used w) 500) (sym (append-nil (record_places h t))) a.records;
    }
