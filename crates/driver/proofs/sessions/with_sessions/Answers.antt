-- `driver::sessions::with_sessions` meets its contract. The loop's invariant: the sessions so far, with those of the ids that are left, are all sessions.
-- Assumes nothing.
use Rattle.std.proofs.Common.{◌≡◌, ◌+◌, [], length, sym, refl, ◌∙◌, arith}
use Rattle.driver.proofs.States.{Sessions, none, found_in, listing_of, id_passed, session_listed, sessions_end}
use Rattle.driver.proofs.sessions.with_sessions.Goals.{else-loop-id-test, then-loop-id-test+else-id-lt255, in-Some, in_default}
use Rattle.driver.proofs.sessions.with_sessions.Goals as goal

pub loop-id-init : goal.loop-id-init
loop-id-init c = record { parts = []; has = none; leads = refl }

pub loop-id-preserved : goal.loop-id-preserved
loop-id-preserved c =
    let o = c.loop-id in
    let link = c.args.link.now in
    let ids = c.ids-ids.ensures in
    let full : length c.args.text.chars ≡ 4096 = omega arith in
    elim c.match-index_of.branch [
      | in-Some w ↦
          let found = found_in link o.id ids w.in-Some.ensures in
          listing_of w.after-is (session_listed link o.id o.invariant full (omega arith) found w.in-Some.i.below w.with_session-after.ensures)
      | in_default w ↦ listing_of w.after-is (id_passed link o.id o.invariant (omega arith) (found_in link o.id ids (sym w.in_default.ensures)) (omega arith))
    ]

-- the loop ends within its last turn, at id 255
pub returns : goal.returns
returns c =
    let o = c.loop-id in
    let link = c.args.link.now in
    let ids = c.ids-ids.ensures in
    let full : length c.args.text.chars ≡ 4096 = omega arith in
    elim c.loop-id-test.branch [
      | else-loop-id-test w ↦ absurd (omega arith)
      | then-loop-id-test+else-id-lt255 w ↦
          let end = λ (i : Sessions c.args.text link (o.id + 1) c.loop-id-test.after). sessions_end link (o.id + 1) i full (omega arith) c.listed.ensures in
          elim w.match-index_of.branch [
            | in-Some v ↦
                let found = found_in link o.id ids v.in-Some.ensures in
                end (listing_of (w.after-is ∙ v.after-is) (session_listed link o.id o.invariant full (omega arith) found v.in-Some.i.below v.with_session-after.ensures))
            | in_default v ↦
                end (listing_of (w.after-is ∙ v.after-is) (id_passed link o.id o.invariant (omega arith) (found_in link o.id ids (sym v.in_default.ensures)) (omega arith)))
          ]
    ]
