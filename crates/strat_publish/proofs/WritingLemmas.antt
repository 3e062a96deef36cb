-- The next manifest, once it is written.
use Rattle.std.proofs.Common.{◌≡◌, ℕ, List, [], ◌∷◌, ◌++◌, length, Option, Result, Ok, Err, IfOk, refl, sym, ap, ◌∙◌, subst, arith}
use Rattle.strat_base.specs.declared.descriptors.Extent.{Extent}
use Rattle.strat_base.specs.declared.descriptors.LevelDesc.{LevelDesc}
use Rattle.def_crash.specs.Image.{Image}
use Rattle.strat_extent.specs.Blocks.{SpaceView}
use Rattle.strat_extent.specs.Change.{IsMarked}
use Rattle.def_bytes.specs.Arrays.{blocks_of}
use Rattle.def_bytes.specs.Chain.{IsChain, next_block}
use Rattle.def_bytes.specs.Chained.{Chained}
use Rattle.def_bytes.specs.Manifest.{Manifest, manifest_bytes}
use Rattle.strat_manifest.proofs.ChainStoredLemmas.{some_byte}
use Rattle.strat_manifest.specs.Chains.{IsStored}
use Rattle.def_publish.proofs.OccupiedLemmas.{marked_more, taken_beside, next_space}
use Rattle.def_publish.specs.Contents.{Contents}
use Rattle.def_publish.specs.Next.{IsNextOf, HasManifest, arrays_made}
use Rattle.def_publish.specs.Occupied.{IsSpaceOf, extents_of, arrays_in}
use Rattle.strat_publish.specs.Publishing.{IsWrittenTo}
use Rattle.def_bytes.specs.Layout.{newest_format}

-- of what a call gives one thing follows from two
pub ok_and : {T E : Type 0} (r : Result T E) (P Q R : T → Type 0) → ((x : T) → P x → Q x → R x) → IfOk r P → IfOk r Q → IfOk r R
ok_and (Ok x) P Q R f p q = f x p q
ok_and (Err e) P Q R f p q = p

-- contents that name it have it
pub has_stored : (g : Image) (first size : ℕ) (chain : List Extent) (m : Manifest) (new : Contents) → IsStored newest_format g first size m (blocks_of chain) → size ≡ length (manifest_bytes newest_format m)
    → IsWrittenTo first size chain m new → HasManifest g new
has_stored g first size chain m new stored len w = by_blocks (blocks_of chain) refl
  where
    by_blocks : (blocks : List ℕ) → blocks_of chain ≡ blocks → HasManifest g new
    by_blocks [] e =
        let none = subst (λ (bs : List ℕ). IsChain g bs (manifest_bytes newest_format m)) e stored.chain in
        absurd (let some = some_byte newest_format m in let count = none.count in omega (arith, some, count))
    by_blocks (b ∷ others) e =
        let head : new.sb.manifest ≡ b = w.first_is ∙ stored.first_is ∙ ap next_block e in
        let text : manifest_bytes newest_format m ≡ manifest_bytes new.sb.format new.chained.manifest = λ i. manifest_bytes (sym w.format i) (sym w.chained i).manifest in
        record {
          others = others;
          blocks = ap (λ (c : Chained). c.blocks) w.chained ∙ e ∙ ap (λ (k : ℕ). k ∷ others) (sym head);
          size = w.length_is ∙ len ∙ ap (λ (bs : List ℕ). length bs) text;
          chain = subst (λ (k : ℕ). IsChain g (k ∷ others) (manifest_bytes new.sb.format new.chained.manifest)) (sym head)
              (subst (λ (bs : List ℕ). IsChain g (b ∷ others) bs) text (subst (λ (bs : List ℕ). IsChain g bs (manifest_bytes newest_format m)) e stored.chain));
        }

-- its blocks and those of the next arrays are the next contents', and the old ones are left over
pub space_written : (s t : SpaceView) (chain : List Extent) → IsMarked s chain t → (old new : Contents) (made : Option LevelDesc) (taken kept : List LevelDesc) (gone others : List Extent)
    → IsNextOf old new made taken kept → new.chained.blocks ≡ blocks_of chain → blocks_of gone ≡ old.chained.blocks
    → IsSpaceOf s old (extents_of (arrays_made made) ++ others) → IsSpaceOf t new (gone ++ (extents_of (arrays_in taken) ++ others))
space_written s t chain marked old new made taken kept gone others next chain_is gone_is is =
    next_space t old new made taken kept chain gone others next (sym chain_is) gone_is (taken_beside s t old (extents_of (arrays_made made) ++ others) chain is (marked_more s t chain marked))
