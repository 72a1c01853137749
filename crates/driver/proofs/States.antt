-- Lists in a text, as the STATE has them: parts joined behind what a text said when the list began, and the loops over blocks, messages, ids and rows.
-- A text that is full takes nothing more; by cases on whether the list has a part, and by the laws of take and drop.
-- Assumes nothing.
use Rattle.std.proofs.Common.{◌≡◌, ℕ, suc, ◌+◌, ◌-◌, ◌*◌, ◌<◌, ◌≤◌, min, Bool, true, false, eqb, ltb, leb, ◌≢◌, List, [], ◌∷◌, ◌++◌, map, length, get_or, take, drop, sym, refl, ap, ◌∙◌, subst, append-nil, add-one, arith, length-append, drop_of_length-le, length-take, drop-cons, le-ltb, lt-ltb, eq-eqb, ne_eqb, le-leb, leb-true}
use lib.Seq.{take-append-le}
use Rattle.numbers.specs.Bytes.{pick}
use Rattle.numbers.proofs.Choices.{split}
use Rattle.lines.specs.Decimal.{decimal_of}
use Rattle.text.specs.declared.Text.{Text}
use Rattle.text.specs.Said.{said, Longer}
use Rattle.text.proofs.Texts.{then, renamed}
use Rattle.session.specs.declared.Reassembly.{Reassembly}
use Rattle.frame.specs.declared.SessionId.{SessionId}
use Rattle.session.specs.declared.Row.{Row}
use Rattle.session.specs.Rows.{no_row, no_reassembly}
use Rattle.link.specs.declared.Link.{Link}
use Rattle.link.specs.State.{index_of, owner_of}
use Rattle.state.specs.Layout.{link_of, row_in}
use Rattle.state.proofs.Rows.{row_of_link}
use Rattle.rules.specs.Parts.{index_in}
use Rattle.rules.proofs.Ids.{index_ids}
use Rattle.driver.specs.Spelling.{joined, or_dash}
use Rattle.driver.specs.States.{blocks_from, message_text, service_at, messages_from, session_text, with_session, sessions_from}

-- a piece that is put if a test holds
pub chosen : {t r : Text} {x : List ℕ} (y : List ℕ) {b : Bool} → b ≡ true → Longer t x r → Longer t (pick b x y) r
chosen {x = x} y e f = renamed (sym (ap (λ (c : Bool). pick c x y) e)) f

-- ---- a list that began behind t

-- the parts so far, and the text that has them: t itself while nothing was done
pub data Listed (t : Text) : List ℕ → Text → Type 0 where
  none : Listed t [] t
  some : {s : List ℕ} {u : Text} → Longer t s u → Listed t s u

module _ {t : Text} (l : length t.chars ≡ 4096) where
  end_is : {s : List ℕ} {u : Text} → Longer t s u → u.end ≡ min (min t.end 4096 + length s) 4096
  end_is {s} {u} f =
      let e : u.end ≡ length (take 4096 (said t ++ s)) = f.ends ∙ ap length f.says in
      omega (arith, e, length-take 4096 (said t ++ s), length-append (said t) s, length-take t.end t.chars, l)

  -- behind a full text any piece says the same
  full_says : {a b : List ℕ} {r : Text} → 4096 ≤ t.end → Longer t a r → Longer t b r
  full_says {a} {b} h f =
      let m : 4096 ≤ length (said t) = omega (arith, length-take t.end t.chars, l) in
      record {
        says = f.says ∙ take-append-le 4096 (said t) a m ∙ sym (take-append-le 4096 (said t) b m);
        within = f.within;
        ends = f.ends;
        cut = f.cut;
        size = f.size;
      }

  joins_some : {u w : Text} (mark : ℕ) (p s : List ℕ) → Longer t s u → Longer u (pick (leb u.end t.end) [] (mark ∷ []) ++ p) w → Longer t (joined mark s p) w
  joins_some {u} {w} mark p [] f g =
      let h : u.end ≤ t.end = omega (arith, end_is f) in
      then f (subst (λ (b : Bool). Longer u (pick b [] (mark ∷ []) ++ p) w) (le-leb u.end t.end h) g)
  joins_some {u} {w} mark p (x ∷ s) f g =
      split (leb u.end t.end)
      (λ e. full_says (omega (arith, end_is f, leb-true u.end t.end e)) (then f g))
      (λ e. then f (subst (λ (b : Bool). Longer u (pick b [] (mark ∷ []) ++ p) w) e g))

  -- one part more
  pub joins : {s : List ℕ} {u w : Text} (mark : ℕ) (p : List ℕ) → Listed t s u → Longer u (pick (leb u.end t.end) [] (mark ∷ []) ++ p) w → Longer t (joined mark s p) w
  joins {s} {u} {w} mark p none g = subst (λ (b : Bool). Longer t (pick b [] (mark ∷ []) ++ p) w) (le-leb t.end t.end (omega arith)) g
  joins {s} mark p (some f) g = joins_some mark p s f g

  ends_some : {u r : Text} (s : List ℕ) → Longer t s u → Longer u (pick (leb u.end t.end) (45 ∷ []) []) r → Longer t (or_dash s) r
  ends_some {u} {r} [] f g =
      let h : u.end ≤ t.end = omega (arith, end_is f) in
      then f (subst (λ (b : Bool). Longer u (pick b (45 ∷ []) []) r) (le-leb u.end t.end h) g)
  ends_some {u} {r} (x ∷ s) f g =
      split (leb u.end t.end)
      (λ e. full_says (omega (arith, end_is f, leb-true u.end t.end e)) (then f g))
      (λ e. renamed (append-nil (x ∷ s)) (then f (subst (λ (b : Bool). Longer u (pick b (45 ∷ []) []) r) e g)))

  -- no part more
  pub ends_list : {s : List ℕ} {u r : Text} → Listed t s u → Longer u (pick (leb u.end t.end) (45 ∷ []) []) r → Longer t (or_dash s) r
  ends_list {s} {u} {r} none g = subst (λ (b : Bool). Longer t (pick b (45 ∷ []) []) r) (le-leb t.end t.end (omega arith)) g
  ends_list {s} (some f) g = ends_some s f g

pub stays : {t u r : Text} {s : List ℕ} → Listed t s u → Longer u [] r → Longer t s r
stays none g = g
stays {s = s} (some f) g = renamed (append-nil s) (then f g)

-- the list so far, and what becomes of it: the loops' invariants
pub record Listing (t : Text) (rest : List ℕ → List ℕ) (whole : List ℕ) (u : Text) : Type 0 where
  pub parts : List ℕ
  pub has : Listed t parts u
  pub leads : rest parts ≡ whole

-- a text by another name
pub listing_of : {t a u : Text} {rest : List ℕ → List ℕ} {whole : List ℕ} → a ≡ u → Listing t rest whole u → Listing t rest whole a
listing_of {t} {rest = rest} {whole = whole} e i = subst (Listing t rest whole) (sym e) i

-- ---- blocks

block_turn : (owner b : ℕ) (owners s : List ℕ) → b < length owners
    → blocks_from owner (b + 1) (drop (b + 1) owners) (pick (eqb (get_or owners b 0) owner) (joined 46 s (decimal_of b)) s) ≡ blocks_from owner b (drop b owners) s
unfolding blocks_from
block_turn owner b owners s h = rw (add-one b, drop-cons owners b 0 h)

module _ {t : Text} (owner b : ℕ) (owners : List ℕ) {whole : List ℕ} {u : Text} (i : Listing t (blocks_from owner b (drop b owners)) whole u) where
  -- what is left behind this block, if it is the owner's and if not
  after_block : b < length owners → (hit : Bool) → eqb (get_or owners b 0) owner ≡ hit → blocks_from owner (b + 1) (drop (b + 1) owners) (pick hit (joined 46 i.parts (decimal_of b)) i.parts) ≡ whole
  after_block h hit e =
      ap (λ (y : Bool). blocks_from owner (b + 1) (drop (b + 1) owners) (pick y (joined 46 i.parts (decimal_of b)) i.parts)) (sym e)
      ∙ block_turn owner b owners i.parts h
      ∙ i.leads

  pub block_passed : b < length owners → get_or owners b 0 ≢ owner → Listing t (blocks_from owner (b + 1) (drop (b + 1) owners)) whole u
  block_passed h n = record { parts = i.parts; has = i.has; leads = after_block h false (ne_eqb (get_or owners b 0) owner n) }

  pub block_listed : {v w : Text} → length t.chars ≡ 4096 → b < length owners → get_or owners b 0 ≡ owner → Longer u (pick (leb u.end t.end) [] (46 ∷ [])) v → Longer v (decimal_of b) w
      → Listing t (blocks_from owner (b + 1) (drop (b + 1) owners)) whole w
  block_listed l h e f g =
      record {
        parts = joined 46 i.parts (decimal_of b);
        has = some (joins l 46 (decimal_of b) i.has (then f g));
        leads = after_block h true (eq-eqb (get_or owners b 0) owner e);
      }

  pub blocks_end : {r : Text} → length owners ≤ b → Longer u [] r → Longer t whole r
  unfolding blocks_from
  blocks_end h g =
      let e : i.parts ≡ blocks_from owner b (drop b owners) i.parts = rw (drop_of_length-le owners {i = b} h) in
      renamed (e ∙ i.leads) (stays i.has g)

-- ---- messages

pub owner_is : (row place : ℕ) {n : ℕ} → n ≡ 1 + (row * 5 + place) → n ≡ owner_of row place
unfolding owner_of
owner_is row place e = e

message_turn : (row place : ℕ) (owners : List ℕ) (ms : List Reassembly) (s : List ℕ) → place < length ms
    → messages_from row (place + 1) owners (drop (place + 1) ms) (pick (get_or ms place no_reassembly).live (joined 43 s (message_text (get_or ms place no_reassembly) (get_or service_at place 0) owners (owner_of row place))) s)
    ≡ messages_from row place owners (drop place ms) s
unfolding messages_from
message_turn row place owners ms s h = rw (add-one place, drop-cons ms place no_reassembly h)

module _ {t : Text} (l : length t.chars ≡ 4096) (row place : ℕ) (owners : List ℕ) (ms : List Reassembly) {whole : List ℕ} {u : Text}
    (i : Listing t (messages_from row place owners (drop place ms)) whole u) where
  -- a message behind those before it, if it is open
  with_message : (m : Reassembly) (service owner : ℕ) {w : Text} → (live : Bool) → m.live ≡ live
      → Longer u (pick live (pick (leb u.end t.end) [] (43 ∷ []) ++ message_text m service owners owner) []) w
      → Listed t (pick live (joined 43 i.parts (message_text m service owners owner)) i.parts) w
  with_message m service owner true e g = some (joins l 43 (message_text m service owners owner) i.has g)
  with_message m service owner false e g = some (stays i.has g)

  pub message_listed : {service owner : ℕ} {w : Text} → place < length ms → service ≡ get_or service_at place 0 → owner ≡ owner_of row place
      → Longer u (pick (get_or ms place no_reassembly).live (pick (leb u.end t.end) [] (43 ∷ []) ++ message_text (get_or ms place no_reassembly) service owners owner) []) w
      → Listing t (messages_from row (place + 1) owners (drop (place + 1) ms)) whole w
  message_listed {service} {owner} h e f g =
      let m : Reassembly = get_or ms place no_reassembly in
      let p : message_text m service owners owner ≡ message_text m (get_or service_at place 0) owners (owner_of row place)
      = ap (λ (n : ℕ). message_text m n owners owner) e ∙ ap (λ (n : ℕ). message_text m (get_or service_at place 0) owners n) f in
      record {
        parts = pick m.live (joined 43 i.parts (message_text m service owners owner)) i.parts;
        has = with_message m service owner m.live refl g;
        leads = ap (λ (q : List ℕ). messages_from row (place + 1) owners (drop (place + 1) ms) (pick m.live (joined 43 i.parts q) i.parts)) p
            ∙ message_turn row place owners ms i.parts h
            ∙ i.leads;
      }

  pub messages_end : {r : Text} → length ms ≤ place → Longer u (pick (leb u.end t.end) (45 ∷ []) []) r → Longer t (or_dash whole) r
  unfolding messages_from
  messages_end h g =
      let e : i.parts ≡ messages_from row place owners (drop place ms) i.parts = rw (drop_of_length-le ms {i = place} h) in
      renamed (ap or_dash (e ∙ i.leads)) (ends_list l i.has g)

-- ---- sessions, by rising id: those from `id` on are left

session_turn : (link : Link) (id : ℕ) (s : List ℕ) → id < 256
    → sessions_from link (id + 1) (256 - (id + 1)) (with_session link (index_of id link.rows) s) ≡ sessions_from link id (256 - id) s
unfolding sessions_from
session_turn link id s h =
    let z : 256 - id ≡ suc (256 - (id + 1)) = omega arith in
    rw (z, add-one id)

-- a session's text behind a mark, by the row and the owners that were read off a state
pub session_read : (mark s : List ℕ) (i : ℕ) {row : Row} {owners : List ℕ} {t r : Text} → row ≡ row_in s i → owners ≡ (link_of s).owners
    → Longer t (mark ++ session_text row i owners) r → Longer t (mark ++ session_text (row_in s i) i (link_of s).owners) r
session_read mark s i {row} {owners} e f g =
    renamed (ap (λ (x : Row). mark ++ session_text x i owners) e ∙ ap (λ (o : List ℕ). mark ++ session_text (row_in s i) i o) f) g

-- the sessions of a state so far
abbrev pub Sessions : Text → List ℕ → ℕ → Text → Type 0
Sessions t s id u = Listing t (sessions_from (link_of s) id (256 - id)) (sessions_from (link_of s) 1 255 []) u

-- where an id stands among the ids is where it stands among the rows
pub found_in : (s : List ℕ) (id : ℕ) {ids : List SessionId} {k : ℕ} → ids ≡ map (λ (r : Row). r.id) (link_of s).rows → k ≡ index_in (record { 0 = id }) ids
    → k ≡ index_of id (link_of s).rows
found_in s id e f = f ∙ ap (index_in (record { 0 = id })) e ∙ index_ids (record { 0 = id }) (link_of s).rows

module _ {t : Text} (s : List ℕ) (id : ℕ) {u : Text} (i : Sessions t s id u) where
  -- what is left behind this id, if row k has it and if none has
  after_id : {k : ℕ} → id < 256 → k ≡ index_of id (link_of s).rows → (hit : Bool) → ltb k 8 ≡ hit
      → let row = session_text (get_or (link_of s).rows k no_row) k (link_of s).owners in
      sessions_from (link_of s) (id + 1) (256 - (id + 1)) (pick hit (joined 59 i.parts row) i.parts) ≡ sessions_from (link_of s) 1 255 []
  after_id {k} h q hit y =
      let row : List ℕ = session_text (get_or (link_of s).rows k no_row) k (link_of s).owners in
      let after : List ℕ → List ℕ = sessions_from (link_of s) (id + 1) (256 - (id + 1)) in
      ap (λ (b : Bool). after (pick b (joined 59 i.parts row) i.parts)) (sym y)
      ∙ ap (λ (n : ℕ). after (with_session (link_of s) n i.parts)) q
      ∙ session_turn (link_of s) id i.parts h
      ∙ i.leads

  -- no row has this id
  pub id_passed : {k : ℕ} → id < 256 → k ≡ index_of id (link_of s).rows → 8 ≤ k → Sessions t s (id + 1) u
  id_passed {k} h q n = record { parts = i.parts; has = i.has; leads = after_id h q false (le-ltb k 8 n) }

  pub session_listed : {k : ℕ} {w : Text} → length t.chars ≡ 4096 → id < 256 → k ≡ index_of id (link_of s).rows → k < 8
      → Longer u (pick (leb u.end t.end) [] (59 ∷ []) ++ session_text (row_in s k) k (link_of s).owners) w → Sessions t s (id + 1) w
  session_listed {k} l h q n g =
      let said : List ℕ = session_text (row_in s k) k (link_of s).owners in
      let after : List ℕ → List ℕ = sessions_from (link_of s) (id + 1) (256 - (id + 1)) in
      let read : row_in s k ≡ get_or (link_of s).rows k no_row = sym (row_of_link s no_row k n) in
      record {
        parts = joined 59 i.parts said;
        has = some (joins l 59 said i.has g);
        leads = ap (λ (r : Row). after (joined 59 i.parts (session_text r k (link_of s).owners))) read ∙ after_id h q true (lt-ltb k 8 n);
      }

  pub sessions_end : {r : Text} → length t.chars ≡ 4096 → 256 ≤ id → Longer u (pick (leb u.end t.end) (45 ∷ []) []) r
      → Longer t (or_dash (sessions_from (link_of s) 1 255 [])) r
  unfolding sessions_from
  sessions_end l h g =
      let z : 256 - id ≡ 0 = omega arith in
      let q : i.parts ≡ sessions_from (link_of s) id (256 - id) i.parts = rw z in
      renamed (ap or_dash (q ∙ i.leads)) (ends_list l i.has g)
