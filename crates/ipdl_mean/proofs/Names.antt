-- What a test of two names says of a choice by the channels.
use Rattle.std.proofs.Common.{◌≡◌, true, false, sym, ◌∙◌}
use Rattle.std.specs.Prelude.{bytes_eq, if◌then◌else◌}
use Rattle.ipdl_laws.proofs.Sets.{if-true, if-false}
use Rattle.ipdl_term.proofs.ChannelSets.{bytes_eq-same_channel}
use Rattle.ipdl_term.specs.Channels.{same_channel}
use Rattle.ipdl_term.specs.Terms.{Channel}

module _ {X : Type 0} (c d : Channel) (x y : X) where
  pub where_same : bytes_eq c d ≡ true → (if same_channel c d then x else y) ≡ x
  where_same e = if-true (same_channel c d) x y (sym (bytes_eq-same_channel c d) ∙ e)

  pub where_other : bytes_eq c d ≡ false → (if same_channel c d then x else y) ≡ y
  where_other e = if-false (same_channel c d) x y (sym (bytes_eq-same_channel c d) ∙ e)
