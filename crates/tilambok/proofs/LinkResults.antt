-- What the link's creation and call leave to a C caller, from what the library says of them. Assumes nothing.
use Prim.Native.Nat.{ℕ}
use mathlib.Core.Path.{◌≡◌, ap, sym, subst, ◌∙◌}
use mathlib.Core.List.{List}
use Rattle.numbers.specs.Bytes.{AreBytes}
use Rattle.payload.specs.declared.version.Version.{Version}
use Rattle.link.specs.declared.Grant.{Grant}
use Rattle.link.specs.declared.Answer.{Answer}
use Rattle.link.specs.Sizes.{Small}
use Rattle.link.proofs.Values.{values_tell}
use Rattle.state.specs.Calls.{Left, left, call_in, Told, told_of, made, create_in}
use Rattle.state.proofs.Lists.{answers_small_in}
use Rattle.tilambok.specs.Links.{Report, report_of, Done, done, done_by, grant_from, version_from, tilambok_link_call, tilambok_link_create}

-- a call with offer g that told its answer a and left these bytes. An answer's values tell it
module _ (s p input o : List ℕ) (g : Grant) (a : Answer) {s' p' o' : List ℕ} (e : told_of (left a s' p' o') ≡ told_of (call_in s p input o g)) where
  abbrev w : Left
  w = call_in s p input o g

  answer_told : a ≡ w.answer
  answer_told = values_tell (ap (λ (t : Told). t.values) e)

  pub small_told : AreBytes s → Small a
  small_told b = subst Small (sym answer_told) (answers_small_in s b p input o g)

  left_told : left a s' p' o' ≡ w
  left_told =
      ap (λ (x : Answer). left x s' p' o') answer_told
      ∙ ap (λ (x : List ℕ). left w.answer x p' o') (ap (λ (t : Told). t.state) e)
      ∙ ap (λ (x : List ℕ). left w.answer w.state x o') (ap (λ (t : Told). t.pool) e)
      ∙ ap (λ (x : List ℕ). left w.answer w.state w.pool x) (ap (λ (t : Told). t.out) e)

  -- with the report of its answer, and the offer that the caller's numbers say
  module _ (guarantee cap hash service consumed value : ℕ) where
    pub as_called : {r : Report} → r ≡ report_of service consumed value a → g.guarantee ≡ guarantee → g.cap ≡ cap → g.hash ≡ hash
        → done r s' p' o' ≡ tilambok_link_call s p input o (grant_from guarantee cap hash) service consumed value
    as_called f x y z =
        let by : Grant → Done = λ h. tilambok_link_call s p input o h service consumed value in
        ap (λ (r : Report). done r s' p' o') f ∙ ap (done_by service consumed value) left_told
        ∙ ap (λ (n : ℕ). by (grant_from n g.cap g.hash)) x
        ∙ ap (λ (n : ℕ). by (grant_from guarantee n g.hash)) y
        ∙ ap (λ (n : ℕ). by (grant_from guarantee cap n)) z

-- a creation with the version that the numbers say
pub as_created : (s : List ℕ) (major minor patch mtu : ℕ) (v : Version) {r n : ℕ} {t : List ℕ} → r ≡ n → made n t ≡ create_in s v mtu
    → v.major ≡ major → v.minor ≡ minor → v.patch ≡ patch → made r t ≡ tilambok_link_create s (version_from major minor patch) mtu
as_created s major minor patch mtu v {r} {n} {t} e f a b c =
    ap (λ (x : ℕ). made x t) e ∙ f
    ∙ ap (λ (x : ℕ). create_in s (version_from x v.minor v.patch) mtu) a
    ∙ ap (λ (x : ℕ). create_in s (version_from major x v.patch) mtu) b
    ∙ ap (λ (x : ℕ). create_in s (version_from major minor x) mtu) c
