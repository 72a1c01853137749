-- A new link keeps the state rules, and its book is empty: by computation, its rows being free and its map too.
-- Assumes nothing.
use Prim.Native.Nat.{ℕ, zero, suc}
use mathlib.Core.Path.{◌≡◌, refl, ap, fun_ext}
use mathlib.Core.Bool.{true, false}
use mathlib.Core.List.{List}
use native.Mathlib.Omega.{arith}
use lib.ListN.{length, get_or-replicate}
use borrow.Author.Tests.{ne_eqb}
use Rattle.blocks.specs.Map.{free_map, held_by, held_by_all}
use Rattle.session.specs.declared.Row.{Row}
use Rattle.session.specs.Rows.{no_row, free_row}
use Rattle.session.specs.Decide.{need_of, held_in, message_blocks}
use Rattle.payload.specs.declared.version.Version.{Version}
use Rattle.link.specs.State.{index_of, owner_of, shares_in, distinct_ids, blocks_fit, free_fits, row_fits, rules_hold, settings_fit, created_link}
use Rattle.link.specs.Book.{empty_book}
use Rattle.link.specs.Claim.{is_open, created}
use Rattle.link.specs.Pages.{row_of, pages, Sane}

created_rules : (v : Version) (mtu : ℕ) → rules_hold (created_link v mtu) ≡ true
unfolding rules_hold distinct_ids index_of row_fits blocks_fit owner_of free_fits shares_in held_in message_blocks held_by held_by_all free_map need_of
created_rules v mtu = refl

pub created_sane : (v : Version) (mtu : ℕ) (pool : List ℕ) → settings_fit v mtu ≡ true → length pool ≡ 65536 → Sane (created v mtu pool)
unfolding free_map
created_sane v mtu pool f l = record {
  rows = refl;
  five = (refl, (refl, (refl, (refl, (refl, (refl, (refl, (refl, tt))))))));
  ids = λ k h. omega (arith, ap (λ (r : Row). r.id.0) (get_or-replicate 8 k free_row no_row h));
  owners = refl;
  pool = l;
  settings = f;
  rules = created_rules v mtu;
}

-- no id is in a row
pub created_closed : (v : Version) (mtu : ℕ) (pool : List ℕ) (i : ℕ) → is_open (created v mtu pool) i ≡ false
unfolding is_open index_of
created_closed v mtu pool zero = refl
created_closed v mtu pool (suc i) = rw (ne_eqb (suc i) 0 (λ z. omega arith), ne_eqb 0 (suc i) (λ z. omega arith))

pub created_book : (v : Version) (mtu : ℕ) (pool : List ℕ) → pages (created v mtu pool) ≡ empty_book
unfolding pages row_of
created_book v mtu pool = fun_ext (λ (i : ℕ). rw (created_closed v mtu pool i))
