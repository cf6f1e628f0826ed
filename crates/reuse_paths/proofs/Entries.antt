-- Each open leaf has an entry that fits and whose claims hold, and the pieces of the leaf are among those of all.
use Rattle.std.proofs.Common.{sym, subst, inl, inr, ℕ, suc, List, [], ◌∷◌, ◌++◌}
use Rattle.iolb_model.specs.Form.{AffineForm}
use Rattle.execution_laws.proofs.Members.{Member, Member-append_left, Member-append_right}
use Rattle.claims.specs.Claims.{AllHold}
use Rattle.claims.specs.declared.place.Step.{Step}
use Rattle.claims.specs.declared.place.Step.TheVariants.{Index}
use Rattle.claims.proofs.Laws.{AllHold-left, AllHold-right}
use Rattle.dep_quast.specs.Context.{ReadOf}
use Rattle.reuse_paths.specs.EntryClaims.{leaf_claims}
use Rattle.reuse_paths.specs.LeafClaims.{LeafClaim}
use Rattle.dep_quast.specs.OpenLeaves.{OpenLeaf}
use Rattle.footprint_pieces.specs.Pieces.{FootprintPiece}
use Rattle.reuse_paths.specs.WalkClaims.{leaves_claims}
use Rattle.reuse_paths.specs.WalkFits.{EntryFits, EntriesFit}
use Rattle.reuse_paths.specs.WalkPieces.{entry_pieces, leaves_pieces}
use Rattle.reuse_paths.specs.WalkSettings.{WalkSetting}

module _ (condition : ℕ) (walk : WalkSetting) (reader : ReadOf) (place : List Step) (rows : List AffineForm) where
  pub record HasEntry (leaves : List OpenLeaf) (entries : List LeafClaim) (leaf : OpenLeaf) : Type 0 where
    pub index : ℕ
    pub entry : LeafClaim
    pub fits : EntryFits walk reader leaf.origin entry
    pub hold : AllHold (leaf_claims condition walk reader (place ++ Index index ∷ []) rows leaf entry)
    pub pieces : (piece : FootprintPiece) → Member piece (entry_pieces walk reader (rows ++ leaf.tests) leaf.origin entry) → Member piece (leaves_pieces walk reader rows leaves entries)

  pub has-entry : (index : ℕ) (leaves : List OpenLeaf) (entries : List LeafClaim) (leaf : OpenLeaf) → EntriesFit walk reader leaves entries
      → AllHold (leaves_claims condition walk reader place rows index leaves entries) → Member leaf leaves → HasEntry leaves entries leaf
  has-entry index [] entries leaf fits h m = absurd m
  has-entry index (l ∷ leaves) [] leaf fits h m = absurd fits
  has-entry index (l ∷ leaves) (entry ∷ entries) leaf fits h (inl e) =
      subst (HasEntry (l ∷ leaves) (entry ∷ entries)) (sym e) (record {
        index = index;
        entry = entry;
        fits = fits.0;
        hold = AllHold-left (leaf_claims condition walk reader (place ++ Index index ∷ []) rows l entry) (leaves_claims condition walk reader place rows (suc index) leaves entries) h;
        pieces = λ piece m. Member-append_left piece (entry_pieces walk reader (rows ++ l.tests) l.origin entry) (leaves_pieces walk reader rows leaves entries) m;
      })
  has-entry index (l ∷ leaves) (entry ∷ entries) leaf fits h (inr m) =
      let later : HasEntry leaves entries leaf =
      has-entry (suc index) leaves entries leaf fits.1
      (AllHold-right (leaf_claims condition walk reader (place ++ Index index ∷ []) rows l entry) (leaves_claims condition walk reader place rows (suc index) leaves entries) h) m in record {
        index = later.index;
        entry = later.entry;
        fits = later.fits;
        hold = later.hold;
        pieces = λ piece n. Member-append_right piece (entry_pieces walk reader (rows ++ l.tests) l.origin entry) (leaves_pieces walk reader rows leaves entries) (later.pieces piece n);
      }
