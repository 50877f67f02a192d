use Rattle.std.proofs.Common.{ap, ◌∙◌, ◌≡◌, [], ◌∷◌, ◌++◌, if◌then◌else◌, Some}
use Rattle.std.specs.Map.{keys_of, values_of}
use Rattle.std.specs.Prelude.{bytes_eq}
use Rattle.ipdl_term.specs.Channels.{has}
use Rattle.ipdl_term.specs.Terms.{Channel}
use Rattle.ipdl_embed.specs.Tables.{found_in}
use Rattle.ipdl_embed.proofs.PairLaws.{IsIndexed-push}
use Rattle.ipdl_embed.proofs.renaming.Renaming.with.Goals as goal

pub invariant_of-result : goal.invariant_of-result
invariant_of-result c =
    let pairs = c.self.inside.pairs.items in
    let old = found_in c.self.inside.targets in
    let old_back = found_in c.self.inside.sources in
    let put : (d : Channel) → found_in c.insert.new.self d ≡ (if bytes_eq c.args.channel d then Some c.args.name else old d) = λ d. rw (← c.in_ok-copy.ensures, ← c.in_ok-copy-2.ensures) (c.in_ok-insert.ensures.updates.0 d) in
    let put_back : (d : Channel) → found_in c.insert-2.new.self d ≡ (if bytes_eq c.args.name d then Some c.args.channel else old_back d) = λ d. rw (← c.in_ok-copy-3.ensures, ← c.in_ok-copy-4.ensures) (c.in_ok-insert-2.ensures.updates.0 d) in
    IsIndexed-push pairs c.push.new.self.items old (found_in c.insert.new.self) old_back (found_in c.insert-2.new.self) c.args.channel c.args.name c.self.invariant
    (ap (λ list. has (keys_of list) c.args.channel) c.self.view_is ∙ c.requires.other)
    (ap (λ list. has (values_of list) c.args.name) c.self.view_is ∙ c.requires.free)
    c.in_ok-push.ensures.items put put_back

pub returns : goal.returns
returns c = c.in_ok-push.ensures.items ∙ ap (λ list. list ++ (c.args.channel, c.args.name) ∷ []) c.self.view_is
