-- The rule that gives a hidden channel another name: the two sides differ in that name alone.
use Rattle.std.proofs.Common.{◌≡◌, ℕ, true, false, List, refl, sym, ap, ◌∙◌, subst}
use Rattle.std.proofs.lemmas.Bool.{or_parts}
use Rattle.ipdl_term.specs.Channels.{same_channel, has, free_channels}
use Rattle.ipdl_term.specs.Equality.{Equal}
use Rattle.ipdl_term.specs.Interpretations.{Signature, Interpretation}
use Rattle.ipdl_term.specs.Renaming.{renaming_one, renamed, hidden_channels, occurs}
use Rattle.ipdl_term.specs.Terms.{Channel, Protocol, hiding}
use Rattle.ipdl_term.specs.Typing.{Scope, Typed}
use Rattle.ipdl_term.proofs.ChannelSets.{same_channel-itself}
use Rattle.ipdl_laws.specs.Alike.{Alike}
use Rattle.ipdl_laws.proofs.HiddenNames.{itself, alike_but_hidden, Typed_but_hidden}
use Rattle.ipdl_laws.proofs.Mirrors.{Mirrors}
use Rattle.ipdl_laws.proofs.Pairings.{below}
use Rattle.ipdl_laws.proofs.RenamedTerms.{Mirrors-renamed}
use Rattle.ipdl_laws.proofs.Sets.{by_test, if-true, if-false, not_both, at_same_channel}
use Rattle.ipdl_laws.proofs.Soundness.{alike_is_equal}

module _ (c d : Channel) (w : ℕ) (p : Protocol) (fresh : occurs d p ≡ false) where
  not_free : has (free_channels p) d ≡ false
  not_free = (or_parts (has (free_channels p) d) (has (hidden_channels p) d) fresh).0

  not_hidden : has (hidden_channels p) d ≡ false
  not_hidden = (or_parts (has (free_channels p) d) (has (hidden_channels p) d) fresh).1

  -- the channel takes the new name
  new_name : (e : Channel) → same_channel c e ≡ true → renaming_one c d e ≡ d
  new_name e h = if-true (same_channel c e) _ _ h

  -- another channel keeps its name
  kept_name : (e : Channel) → same_channel c e ≡ false → renaming_one c d e ≡ e
  kept_name e h = if-false (same_channel c e) _ _ h

  -- a free channel is not the new name
  differs : (e : Channel) → has (free_channels p) e ≡ true → same_channel d e ≡ false
  differs e h = by_test (same_channel d e)
      (λ k. not_both (has (free_channels p) e) h (at_same_channel (λ x. has (free_channels p) x ≡ false) d e k not_free))
      (λ k. k)

  -- the two sides are of one shape
  mirrored : Mirrors itself (hiding c w p) (hiding d w (renamed (renaming_one c d) p))
  mirrored = (
    refl,
    Mirrors-renamed (below c d itself) (renaming_one c d) p
        (λ e h k. by_test (same_channel c e)
        (λ l. not_both (has (hidden_channels p) d) (sym (ap (has (hidden_channels p)) (new_name e l)) ∙ k) not_hidden)
        (λ l. kept_name e l))
        (λ e h. by_test (same_channel c e)
        (λ l. subst (below c d itself e) (sym (new_name e l)) (l ∙ sym (same_channel-itself d), λ k. not_both (same_channel c e) l k))
        (λ l. subst (below c d itself e) (sym (kept_name e l)) (l ∙ sym (differs e h), λ k. refl))),
  )

-- the two sides are alike
pub alike_rename : (J : Interpretation) (scope : Scope) (c d : Channel) (w : ℕ) (p : Protocol) → occurs d p ≡ false → Alike J scope (hiding c w p) (hiding d w (renamed (renaming_one c d) p))
alike_rename J scope c d w p fresh = alike_but_hidden _ _ (mirrored c d w p fresh) J scope

module _ (sig : Signature) (scope : Scope) (written : List Channel) (c d : Channel) (w : ℕ) (p : Protocol) (fresh : occurs d p ≡ false) (t : Typed sig scope (hiding c w p) written) where
  -- the right side is typed
  pub Typed-rename : Typed sig scope (hiding d w (renamed (renaming_one c d) p)) written
  Typed-rename = Typed_but_hidden _ _ (mirrored c d w p fresh) sig scope written t

  -- and equal to the left one
  pub rename_is_equal : Equal sig scope written (hiding c w p) (hiding d w (renamed (renaming_one c d) p))
  rename_is_equal =
      alike_is_equal sig scope written _ _ t Typed-rename (λ J interprets. alike_rename J scope c d w p fresh)
