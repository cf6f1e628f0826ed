-- Five lists of claims, one after another.
use Rattle.std.proofs.Common.{List, ◌++◌}
use Rattle.claims.specs.Claims.{Claim, AllHold, IsRefusal}
use Rattle.claims.specs.declared.refused.Refused.{Refused}
use Rattle.claims.proofs.Found.{refused-first, refused-later}
use Rattle.claims.proofs.Laws.{AllHold-append}

module _ (a b c d e : List Claim) where
  pub stop-first : (refused : Refused) → IsRefusal a refused → IsRefusal (a ++ (b ++ c) ++ d ++ e) refused
  stop-first refused h = refused-first (a ++ (b ++ c) ++ d) e refused (refused-first (a ++ (b ++ c)) d refused (refused-first a (b ++ c) refused h))

  pub stop-second : (refused : Refused) → AllHold a → IsRefusal b refused → IsRefusal (a ++ (b ++ c) ++ d ++ e) refused
  stop-second refused ha h =
      refused-first (a ++ (b ++ c) ++ d) e refused (refused-first (a ++ (b ++ c)) d refused (refused-later a (b ++ c) refused ha (refused-first b c refused h)))

  pub stop-third : (refused : Refused) → AllHold a → AllHold b → IsRefusal c refused → IsRefusal (a ++ (b ++ c) ++ d ++ e) refused
  stop-third refused ha hb h =
      refused-first (a ++ (b ++ c) ++ d) e refused (refused-first (a ++ (b ++ c)) d refused (refused-later a (b ++ c) refused ha (refused-later b c refused hb h)))

  points-hold : AllHold a → AllHold b → AllHold c → AllHold (a ++ (b ++ c))
  points-hold ha hb hc = AllHold-append a (b ++ c) ha (AllHold-append b c hb hc)

  pub stop-fourth : (refused : Refused) → AllHold a → AllHold b → AllHold c → IsRefusal d refused → IsRefusal (a ++ (b ++ c) ++ d ++ e) refused
  stop-fourth refused ha hb hc h = refused-first (a ++ (b ++ c) ++ d) e refused (refused-later (a ++ (b ++ c)) d refused (points-hold ha hb hc) h)

  pub stop-fifth : (refused : Refused) → AllHold a → AllHold b → AllHold c → AllHold d → IsRefusal e refused → IsRefusal (a ++ (b ++ c) ++ d ++ e) refused
  stop-fifth refused ha hb hc hd h =
      refused-later (a ++ (b ++ c) ++ d) e refused (AllHold-append (a ++ (b ++ c)) d (points-hold ha hb hc) hd) h

  pub all-hold : AllHold a → AllHold b → AllHold c → AllHold d → AllHold e → AllHold (a ++ (b ++ c) ++ d ++ e)
  all-hold ha hb hc hd he = AllHold-append (a ++ (b ++ c) ++ d) e (AllHold-append (a ++ (b ++ c)) d (points-hold ha hb hc) hd) he
