-- Permutations of all channels: a renaming that is injective on a list of channels is a part of one. Under a permutation
-- of all its names, hidden ones too, a term stays of one shape.
use Rattle.std.proofs.Common.{◌≡◌, true, ◌||◌, List, [], ◌∷◌, refl, sym, ap, ap₂, ◌∙◌, subst}
use Rattle.std.proofs.lemmas.Bool.{or_left, or_right}
use Rattle.std.specs.Prelude.{if◌then◌else◌}
use Rattle.ipdl_term.specs.Channels.{same_channel, has, outputs}
use Rattle.ipdl_term.specs.Contexts.{plugged, context_outputs}
use Rattle.ipdl_term.specs.Terms.{Channel, Reaction, returning, flipping, reading, branching, binding, Protocol, nil, assignment, parallel, hiding, Context, hole, in_left, in_right, in_hiding}
use Rattle.ipdl_term.proofs.ChannelSets.{same_channel-sound, same_channel-itself}
use Rattle.ipdl_laws.proofs.Sets.{by_test, if-true, if-false}
use Rattle.ipdl_term.specs.Renaming.{Renaming, renamed_reaction, IsInjectiveOn}
use Rattle.ipdl_laws.proofs.Pairings.{Pairing, IsOneToOne, below, same_channel-image, SameNames, SameNames-turned, SameNames-union, SameNames-without}
use Rattle.ipdl_laws.proofs.Mirrors.{MirrorsReaction, Mirrors, Mirrors-turned, SameNames-outputs}

-- ---- extensions

-- two channels exchanged
abbrev exchange : Channel → Channel → Renaming
exchange a b = λ c. if same_channel a c then b else (if same_channel b c then a else c)

exchange-exchange : (a b c : Channel) → exchange a b (exchange a b c) ≡ c
exchange-exchange a b c = by_test (same_channel a c)
    (λ e. ap (exchange a b) (if-true (same_channel a c) _ _ e) ∙ by_test (same_channel a b)
    (λ l. if-true (same_channel a b) _ _ l ∙ sym (same_channel-sound a b l) ∙ same_channel-sound a c e)
    (λ l. if-false (same_channel a b) _ _ l ∙ if-true (same_channel b b) _ _ (same_channel-itself b) ∙ same_channel-sound a c e))
    (λ e. by_test (same_channel b c)
    (λ l. ap (exchange a b) (if-false (same_channel a c) _ _ e ∙ if-true (same_channel b c) _ _ l) ∙ if-true (same_channel a a) _ _ (same_channel-itself a) ∙ same_channel-sound b c l)
    (λ l. let stays : exchange a b c ≡ c = if-false (same_channel a c) _ _ e ∙ if-false (same_channel b c) _ _ l in ap (exchange a b) stays ∙ stays))

-- a permutation that does with the listed channels what the renaming does
pub record Extension (f : Renaming) (cs : List Channel) : Type 0 where
  pub to : Renaming
  pub back : Renaming
  pub back-to : (c : Channel) → back (to c) ≡ c
  pub to-back : (c : Channel) → to (back c) ≡ c
  pub extends : (c : Channel) → has cs c ≡ true → to c ≡ f c

pub extension : (f : Renaming) (cs : List Channel) → IsInjectiveOn cs f → Extension f cs
extension f [] injective = record { to = λ c. c; back = λ c. c; back-to = λ c. refl; to-back = λ c. refl; extends = λ c h. cc }
extension f (d ∷ cs) injective =
    let rest = extension f cs (λ a b h k. injective a b (or_right (same_channel d a) (has cs a) h) (or_right (same_channel d b) (has cs b) k)) in
    let last = exchange (rest.to d) (f d) in
    record {
      to = λ c. last (rest.to c);
      back = λ c. rest.back (last c);
      back-to = λ c. ap rest.back (exchange-exchange (rest.to d) (f d) (rest.to c)) ∙ rest.back-to c;
      to-back = λ c. ap last (rest.to-back (last c)) ∙ exchange-exchange (rest.to d) (f d) c;
      extends = λ c h. by_test (same_channel d c)
          (λ e. subst (λ x. last (rest.to x) ≡ f x) (same_channel-sound d c e) (if-true (same_channel (rest.to d) (rest.to d)) _ _ (same_channel-itself (rest.to d))))
          (λ e. let old : rest.to c ≡ f c = rest.extends c (sym (ap (λ b. b || has cs c) e) ∙ h) in
          if-false (same_channel (rest.to d) (rest.to c)) _ _ (sym (same_channel-image rest.to d c (λ k. sym (rest.back-to d) ∙ ap rest.back k ∙ rest.back-to c)) ∙ e) ∙
          if-false (same_channel (f d) (rest.to c)) _ _ (ap (same_channel (f d)) old ∙ sym (same_channel-image f d c (injective d c (or_left (same_channel d d) (has cs d) (same_channel-itself d)) h)) ∙ e) ∙
          old);
    }

-- ---- all names moved

-- all names of a protocol, hidden ones too
abbrev pub moved : Renaming → Protocol → Protocol
moved f nil = nil
moved f (assignment c r) = assignment (f c) (renamed_reaction f r)
moved f (parallel p q) = parallel (moved f p) (moved f q)
moved f (hiding c w p) = hiding (f c) w (moved f p)

-- all names of a context
abbrev pub moved_context : Renaming → Context → Context
moved_context f hole = hole
moved_context f (in_left C q) = in_left (moved_context f C) (moved f q)
moved_context f (in_right q C) = in_right (moved f q) (moved_context f C)
moved_context f (in_hiding c w C) = in_hiding (f c) w (moved_context f C)

-- terms of one shape stay so in a pairing that says more
pub Mirrors-more : (R S : Pairing) → ((c c' : Channel) → R c c' → S c c') → (p p' : Protocol) → Mirrors R p p' → Mirrors S p p'
Mirrors-more R S more p p' h =
    Mirrors-turned (λ c' c. R c c') S (λ c' c k. more c c' k) p' p (Mirrors-turned R (λ c' c. R c c') (λ c c' k. k) p p' h)

SameNames-more : (R S : Pairing) → ((c c' : Channel) → R c c' → S c c') → (cs cs' : List Channel) → SameNames R cs cs' → SameNames S cs cs'
SameNames-more R S more cs cs' h =
    SameNames-turned (λ c' c. R c c') S (λ c' c k. more c c' k) cs' cs (SameNames-turned R (λ c' c. R c c') (λ c c' k. k) cs cs' h)

-- each channel with where it is moved
abbrev pub moves : Renaming → Pairing
moves f c c' = f c ≡ c'

module _ (f : Renaming) (injective : (c d : Channel) → f c ≡ f d → c ≡ d) where
  pub IsOneToOne-moves : IsOneToOne (moves f)
  IsOneToOne-moves c c' d d' h k = same_channel-image f c d (injective c d) ∙ ap₂ same_channel h k

  -- also below a hidden channel
  pub moves-below : (c d d' : Channel) → moves f d d' → below c (f c) (moves f) d d'
  moves-below c d d' h = (IsOneToOne-moves c (f c) d d' refl h, λ l. h)

  MirrorsReaction-moved : (r : Reaction) → MirrorsReaction (moves f) r (renamed_reaction f r)
  MirrorsReaction-moved (returning e) = refl
  MirrorsReaction-moved (flipping w) = refl
  MirrorsReaction-moved (reading c) = refl
  MirrorsReaction-moved (branching e r s) = (refl, MirrorsReaction-moved r, MirrorsReaction-moved s)
  MirrorsReaction-moved (binding w r s) = (refl, MirrorsReaction-moved r, MirrorsReaction-moved s)

  pub Mirrors-moved : (p : Protocol) → Mirrors (moves f) p (moved f p)
  Mirrors-moved nil = tt
  Mirrors-moved (assignment c r) = (refl, MirrorsReaction-moved r)
  Mirrors-moved (parallel p q) = (Mirrors-moved p, Mirrors-moved q)
  Mirrors-moved (hiding c w p) = (refl, Mirrors-more (moves f) (below c (f c) (moves f)) (moves-below c) p (moved f p) (Mirrors-moved p))

  -- terms of one shape in a moved context
  pub Mirrors-plugged : (C : Context) (p p' : Protocol) → Mirrors (moves f) p p' → Mirrors (moves f) (plugged C p) (plugged (moved_context f C) p')
  Mirrors-plugged hole p p' h = h
  Mirrors-plugged (in_left C q) p p' h = (Mirrors-plugged C p p' h, Mirrors-moved q)
  Mirrors-plugged (in_right q C) p p' h = (Mirrors-moved q, Mirrors-plugged C p p' h)
  Mirrors-plugged (in_hiding c w C) p p' h =
      (refl, Mirrors-more (moves f) (below c (f c) (moves f)) (moves-below c) (plugged C p) (plugged (moved_context f C) p') (Mirrors-plugged C p p' h))

  -- what a moved context writes
  pub SameNames-context_outputs : (C : Context) (cs cs' : List Channel) → SameNames (moves f) cs cs' → SameNames (moves f) (context_outputs C cs) (context_outputs (moved_context f C) cs')
  SameNames-context_outputs hole cs cs' h = h
  SameNames-context_outputs (in_left C q) cs cs' h =
      SameNames-union (moves f) IsOneToOne-moves (context_outputs C cs) (context_outputs (moved_context f C) cs') (outputs q) (outputs (moved f q)) (SameNames-context_outputs C cs cs' h) (SameNames-outputs (moves f) IsOneToOne-moves q (moved f q) (Mirrors-moved q))
  SameNames-context_outputs (in_right q C) cs cs' h =
      SameNames-union (moves f) IsOneToOne-moves (outputs q) (outputs (moved f q)) (context_outputs C cs) (context_outputs (moved_context f C) cs') (SameNames-outputs (moves f) IsOneToOne-moves q (moved f q) (Mirrors-moved q)) (SameNames-context_outputs C cs cs' h)
  SameNames-context_outputs (in_hiding c w C) cs cs' h =
      SameNames-without (moves f) c (f c) (context_outputs C cs) (context_outputs (moved_context f C) cs') (SameNames-more (moves f) (below c (f c) (moves f)) (moves-below c) (context_outputs C cs) (context_outputs (moved_context f C) cs') (SameNames-context_outputs C cs cs' h))
