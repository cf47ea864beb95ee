-- A tree is held as before where its pages and records are as before.
-- Assumes nothing.
use Prim.Native.Nat.{ℕ, zero, suc}
use mathlib.Core.Path.{◌≡◌, sym, ◌∙◌, subst}
use mathlib.Core.List.{List, [], ◌∷◌, ◌++◌}
use Rattle.words.specs.Lists.{All}
use Rattle.words.proofs.Listed.{all_left, all_right, all_append}
use Rattle.xrtree.specs.Tree.{Key, Inner, Tree, weave, listed, list_pages, list_records, page_places, record_places}
use Rattle.pages.specs.Layout.{page_of, fill_of, record_of}
use Rattle.pages.specs.declared.KeyWords.{KeyWords}
use Rattle.image.specs.Decode.{keys_from}
use Rattle.holding.specs.Held.{KeyHeld, KeysHeld, EveryKid, LeafHeld, PageHeld, Held, key_records}
use Rattle.holding.proofs.Chains.{chain_frame, regions_frame}

abbrev pub SamePage : List ℕ → List ℕ → ℕ → Type 0
SamePage w w' q = page_of w' q ≡ page_of w q

abbrev pub SameRecord : List ℕ → List ℕ → ℕ → Type 0
SameRecord w w' q = record_of w' q ≡ record_of w q

pub key_frame : (w w' : List ℕ) (x : KeyWords) (k : Key) → All (SameRecord w w') k.places → KeyHeld w x k → KeyHeld w' x k
key_frame w w' x k a h =
    record {
      key_is = h.key_is;
      start_is = h.start_is;
      end_is = h.end_is;
      chain = chain_frame h.chain a;
      list_is = h.list_is ∙ sym (regions_frame w w' k.places a);
    }

-- the places of the keys' records of a page, without its children's
module _ {A : Type 0} where
  pub keys_frame : (w w' : List ℕ) (xs : List KeyWords) (cs : List (A × Key)) → All (SameRecord w w') (key_records cs) → KeysHeld w xs cs → KeysHeld w' xs cs
  keys_frame w w' [] [] a h = tt
  keys_frame w w' [] (c ∷ cs) a h = absurd h
  keys_frame w w' (x ∷ xs) [] a h = absurd h
  keys_frame w w' (x ∷ xs) (c ∷ cs) a h =
      (key_frame w w' x c.1 (all_left (SameRecord w w') c.1.places (key_records cs) a) h.0, keys_frame w w' xs cs (all_right (SameRecord w w') c.1.places (key_records cs) a) h.1)

  -- of all that a page's records are, the keys' own
  pub own_records_lem : (P : ℕ → Type 0) (f : A → List ℕ) (cs : List (A × Key)) (last : A) → All P (weave f (λ (k : Key). k.places) cs last) → All P (key_records cs)
  unfolding weave
  own_records_lem P f [] last a = tt
  own_records_lem P f (c ∷ cs) last a =
      let r = all_right P (f c.0) (c.1.places ++ weave f (λ (k : Key). k.places) cs last) a in
      all_append P c.1.places (key_records cs) (all_left P c.1.places (weave f (λ (k : Key). k.places) cs last) r)
      (own_records_lem P f cs last (all_right P c.1.places (weave f (λ (k : Key). k.places) cs last) r))

pub page_frame : (w w' : List ℕ) (h : ℕ) (t : Inner (Tree h)) → SamePage w w' t.place → All (SameRecord w w') (key_records t.kids)
    → PageHeld w (page_of w t.place) h t → PageHeld w' (page_of w' t.place) h t
page_frame w w' h t e a g =
    subst (λ ws. PageHeld w' ws h t) (sym e)
    (record { fill_is = g.fill_is; children_are = g.children_are; keys_held = keys_frame w w' (keys_from (page_of w t.place) 0 (fill_of (page_of w t.place))) t.kids a g.keys_held })

module _ (w w' : List ℕ) where
  kids_frame : (h : ℕ) → ((t : Tree h) → All (SamePage w w') (page_places h t) → All (SameRecord w w') (record_places h t) → Held w h t → Held w' h t)
      → (cs : List (Tree h × Key)) (last : Tree h) → All (SamePage w w') (weave (listed list_pages h) (λ (k : Key). []) cs last)
      → All (SameRecord w w') (weave (listed list_records h) (λ (k : Key). k.places) cs last) → EveryKid (Held w h) cs last → EveryKid (Held w' h) cs last
  unfolding weave
  kids_frame h f [] last a b g = f last a b g
  kids_frame h f (c ∷ cs) last a b g =
      let ra = all_right (SamePage w w') (listed list_pages h c.0) _ a in
      let rb = all_right (SameRecord w w') (listed list_records h c.0) _ b in (
        f c.0 (all_left (SamePage w w') (listed list_pages h c.0) _ a) (all_left (SameRecord w w') (listed list_records h c.0) _ b) g.0,
        kids_frame h f cs last ra (all_right (SameRecord w w') c.1.places _ rb) g.1,
      )

  pub held_frame : (h : ℕ) (t : Tree h) → All (SamePage w w') (page_places h t) → All (SameRecord w w') (record_places h t) → Held w h t → Held w' h t
  unfolding listed
  held_frame zero t a b g = subst (λ ws. LeafHeld ws t) (sym a.0) g
  held_frame (suc h) t a b g = (
    page_frame w w' h t a.0 (own_records_lem (SameRecord w w') (listed list_records h) t.kids t.last b) g.0,
    kids_frame h (λ u x y z. held_frame h u x y z) t.kids t.last a.1 b g.1,
  )
