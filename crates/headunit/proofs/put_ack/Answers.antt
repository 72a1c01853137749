-- `headunit::put_ack` meets its contract.
-- Assumes nothing.
use mathlib.Core.Path.{◌≡◌, ◌∙◌, ap}
use Rattle.payload.specs.declared.version.Version.{Version}
use Rattle.payload.specs.Version.{lesser_of}
use Rattle.payload.proofs.VersionOrder.{lesser_major}
use Rattle.state.specs.Layout.{link_of}
use Rattle.headunit.proofs.put_ack.Goals as goal

pub put_opened-requires : goal.put_opened-requires
put_opened-requires c =
    let own = (link_of c.args.link.now).version in
    let wish = c.in-Some.wish in
    let p = c.requires in
    let settled : c.lesser-version.result ≡ lesser_of own wish = c.lesser-version.ensures ∙ ap (λ (v : Version). lesser_of v wish) c.version.ensures in
    (p.0, rw settled (lesser_major own wish 1 p.1.0 (p.1.1 wish c.in-Some.is)))
