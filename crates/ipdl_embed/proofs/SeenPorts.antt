-- Which new names are visible.
use Rattle.std.proofs.Common.{◌≡◌, ℕ, suc, ◌+◌, ◌<◌, Bool, true, false, if◌then◌else◌, List, [], ◌∷◌, ◌++◌, drop, take, length, get_or, Option, Some, None, refl, sym, ap, ◌∙◌, arith}
use Rattle.std.specs.Option.{option_map, unwrap_or}
use Rattle.std.specs.Prelude.{bytes_eq}
use Rattle.std.proofs.lemmas.Bool.{eqb-true}
use Rattle.std.proofs.lemmas.List.{at_drop_more, take_more}
use Rattle.ipdl_term.specs.Channels.{same_channel}
use Rattle.ipdl_term.specs.Renaming.{Renaming, renaming_of}
use Rattle.ipdl_term.specs.Terms.{Channel}
use Rattle.ipdl_term.specs.Typing.{Scope, scope_of}
use Rattle.ipdl_term.specs.declared.interface.Port.{Port}
use Rattle.ipdl_term.proofs.ChannelSets.{same_channel-sound, bytes_eq-same_channel}
use Rattle.ipdl_embed.specs.Fitting.{is_width, is_visible, first_unfit}
use Rattle.ipdl_embed.specs.Pairs.{Pairs, new_name}
use Rattle.ipdl_embed.proofs.Completions.{renaming_of-given}

-- ---- the last port of a name

-- the last port counts
pub scope_of-push : (ports : List Port) (p : Port) (d : Channel) → scope_of (ports ++ p ∷ []) d ≡ (if same_channel p.name d then Some p.width else scope_of ports d)
scope_of-push [] p d = refl
scope_of-push (q ∷ ports) p d = go (same_channel p.name d) (scope_of-push ports p d)
  where
    go : (b : Bool) → scope_of (ports ++ p ∷ []) d ≡ (if b then Some p.width else scope_of ports d) → scope_of (q ∷ (ports ++ p ∷ [])) d ≡ (if b then Some p.width else scope_of (q ∷ ports) d)
    go true e = rw e refl
    go false e = rw e refl

-- the table with a port more
pub width_more : (ports : List Port) (i : ℕ) (x : Port) (d : Channel) (old new : Option ℕ) → i < length ports → get_or ports i x ≡ x → old ≡ scope_of (take i ports) d → new ≡ (if bytes_eq x.name d then Some x.width else old) → new ≡ scope_of (take (i + 1) ports) d
width_more ports i x d old new within at before put =
    put
    ∙ ap (λ b. if b then Some x.width else old) (bytes_eq-same_channel x.name d)
    ∙ ap (λ o. if same_channel x.name d then Some x.width else o) before
    ∙ sym (scope_of-push (take i ports) x d)
    ∙ ap (λ (p : Port). scope_of (take i ports ++ p ∷ []) d) (sym at)
    ∙ ap (λ list. scope_of list d) (sym (take_more ports i x within))

-- ---- one port

-- the port's new name, where there is one
pub name_there : (pairs : Pairs) (c name : Channel) → Some name ≡ new_name pairs c → name ≡ renaming_of pairs c
name_there pairs c name is = ap (λ o. unwrap_or o c) is ∙ renaming_of-given pairs c

-- and where there is none
pub name_kept : (pairs : Pairs) (c : Channel) → None ≡ new_name pairs c → c ≡ renaming_of pairs c
name_kept pairs c is = ap (λ o. unwrap_or o c) is ∙ renaming_of-given pairs c

-- ---- all ports

-- a number more on both sides
option_map-more : (o : Option ℕ) (n : ℕ) → option_map (λ k. n + k) (option_map (λ k. k + 1) o) ≡ option_map (λ k. (n + 1) + k) o
option_map-more None n = refl
option_map-more (Some k) n = ap Some (omega arith)

module _ (scope : Scope) (f : Renaming) where
  -- the rest of the ports, from the one that is looked at
  first_unfit-drop : (ports : List Port) (n : ℕ) (port : Port) (b : Bool) → n < length ports → get_or ports n port ≡ port → is_visible scope f port ≡ b → first_unfit scope f (drop n ports) ≡ (if b then option_map (λ k. k + 1) (first_unfit scope f (drop (n + 1) ports)) else Some 0)
  first_unfit-drop ports n port b within at is =
      at_drop_more (first_unfit scope f) ports n port within
      ∙ ap (λ p. first_unfit scope f (p ∷ drop (n + 1) ports)) at
      ∙ ap (λ t. if t then option_map (λ k. k + 1) (first_unfit scope f (drop (n + 1) ports)) else Some 0) is

  -- the port that is looked at does not fit
  pub unfit_here : (ports : List Port) (n : ℕ) (port : Port) → n < length ports → get_or ports n port ≡ port → is_visible scope f port ≡ false → first_unfit scope f ports ≡ option_map (λ k. n + k) (first_unfit scope f (drop n ports)) → Some n ≡ first_unfit scope f ports
  unfit_here ports n port within at not_there before =
      sym (before ∙ ap (option_map (λ k. n + k)) (first_unfit-drop ports n port false within at not_there) ∙ ap Some (omega arith))

  -- it fits
  pub fits_here : (ports : List Port) (n : ℕ) (port : Port) → n < length ports → get_or ports n port ≡ port → is_visible scope f port ≡ true → first_unfit scope f ports ≡ option_map (λ k. n + k) (first_unfit scope f (drop n ports)) → first_unfit scope f ports ≡ option_map (λ k. (n + 1) + k) (first_unfit scope f (drop (n + 1) ports))
  fits_here ports n port within at there before =
      before ∙ ap (option_map (λ k. n + k)) (first_unfit-drop ports n port true within at there) ∙ option_map-more (first_unfit scope f (drop (n + 1) ports)) n

  -- two lists of ports
  pub unfit_left : (ports rest : List Port) (n : ℕ) → Some n ≡ first_unfit scope f ports → first_unfit scope f (ports ++ rest) ≡ Some n
  unfit_left [] rest n is = cc
  unfit_left (port ∷ ports) rest n is = go (is_visible scope f port) (first_unfit scope f ports) refl is (unfit_left ports rest)
    where
      go : (b : Bool) (o : Option ℕ) → first_unfit scope f ports ≡ o → Some n ≡ (if b then option_map (λ k. k + 1) o else Some 0) → ((m : ℕ) → Some m ≡ first_unfit scope f ports → first_unfit scope f (ports ++ rest) ≡ Some m) → (if b then option_map (λ k. k + 1) (first_unfit scope f (ports ++ rest)) else Some 0) ≡ Some n
      go false o e is more = sym is
      go true (Some m) e is more = ap (option_map (λ k. k + 1)) (more m (sym e)) ∙ sym is
      go true None e is more = cc

  pub unfit_right : (ports rest : List Port) (o : Option ℕ) → None ≡ first_unfit scope f ports → o ≡ first_unfit scope f rest → first_unfit scope f (ports ++ rest) ≡ option_map (λ k. length ports + k) o
  unfit_right [] rest None none is = sym is
  unfit_right [] rest (Some k) none is = sym is ∙ ap Some (omega arith)
  unfit_right (port ∷ ports) rest o none is = go (is_visible scope f port) (first_unfit scope f ports) refl none (λ none. unfit_right ports rest o none is)
    where
      shifted : (o : Option ℕ) (n : ℕ) → option_map (λ k. k + 1) (option_map (λ k. n + k) o) ≡ option_map (λ k. suc n + k) o
      shifted None n = refl
      shifted (Some k) n = ap Some (omega arith)

      go : (b : Bool) (p : Option ℕ) → first_unfit scope f ports ≡ p → None ≡ (if b then option_map (λ k. k + 1) p else Some 0) → (None ≡ first_unfit scope f ports → first_unfit scope f (ports ++ rest) ≡ option_map (λ k. length ports + k) o) → (if b then option_map (λ k. k + 1) (first_unfit scope f (ports ++ rest)) else Some 0) ≡ option_map (λ k. suc (length ports) + k) o
      go false p e none more = cc
      go true (Some k) e none more = cc
      go true None e none more = ap (option_map (λ k. k + 1)) (more (sym e)) ∙ shifted o (length ports)

  -- a width that is seen
  width_is : (o : Option ℕ) (w : ℕ) → is_width o w ≡ true → o ≡ Some w
  width_is None w is = cc
  width_is (Some v) w is = ap Some (eqb-true v w is)

  -- where all ports fit, each visible channel is visible under its new name
  pub visible_where_fit : (ports : List Port) → first_unfit scope f ports ≡ None → (c : Channel) (w : ℕ) → scope_of ports c ≡ Some w → scope (f c) ≡ Some w
  visible_where_fit [] fit c w there = cc
  visible_where_fit (port ∷ ports) fit c w there =
      go (is_visible scope f port) refl (first_unfit scope f ports) refl fit (scope_of ports c) refl (same_channel port.name c) refl there (λ fit. visible_where_fit ports fit c)
    where
      go : (b : Bool) → is_visible scope f port ≡ b → (p : Option ℕ) → first_unfit scope f ports ≡ p → (if b then option_map (λ k. k + 1) p else Some 0) ≡ None → (o : Option ℕ) → scope_of ports c ≡ o → (q : Bool) → same_channel port.name c ≡ q → scope_of (port ∷ ports) c ≡ Some w → (first_unfit scope f ports ≡ None → (v : ℕ) → scope_of ports c ≡ Some v → scope (f c) ≡ Some v) → scope (f c) ≡ Some w
      go false seen p e fit o is q named there more = cc
      go true seen (Some k) e fit o is q named there more = cc
      go true seen None e fit (Some v) is q named there more =
          let same : Some v ≡ Some w = rw is at there in
          more e v is ∙ same
      go true seen None e fit None is true named there more =
          let same : Some port.width ≡ Some w = rw (is, named) at there in
          ap (λ d. scope (f d)) (sym (same_channel-sound port.name c named)) ∙ width_is (scope (f port.name)) port.width seen ∙ same
      go true seen None e fit None is false named there more =
          let same : None ≡ Some w = rw (is, named) at there in cc
