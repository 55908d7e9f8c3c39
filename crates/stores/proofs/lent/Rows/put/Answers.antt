use Rattle.std.proofs.Common.{◌≡◌, ℕ, ◌+◌, ◌<◌, true, List, length, Ok, Err, ap, ◌∙◌, sym, subst, arith}
use Rattle.std.proofs.lemmas.Bool.{true≢false}
use Rattle.rulebook.specs.Stores.{Writes, limit}
use Rattle.eic.specs.Views.{code_text}
use Rattle.records.specs.Views.{entry_of}
use Rattle.records.specs.declared.Record.{Record}
use Rattle.stores.specs.Moves.{renewed}
use Rattle.stores.specs.Rows.{Puts, held_in, room_in}
use Rattle.stores.proofs.Placing.{searched, change_fits, puts_changed, writes_changed, stands_changed, outside, puts_added, writes_added, stands_added}
use Rattle.stores.proofs.lent.Rows.put.Goals as goal

-- what holds of n and zs holds of what equals them
landed : (P : ℕ → List Record → Type 0) (m n : ℕ) (ys zs : List Record) → m ≡ n → ys ≡ zs → P n zs → P m ys
landed P m n ys zs e f h = subst (λ i. P i ys) (sym e) (subst (P n) (sym f) h)

pub change-requires : goal.change-requires
change-requires g c =
    let s = c.args.self.now in
    let is = searched g.O.Order.stands g.O.Order.located (code_text c.args.from.now.code) s.used s.rows.now c.held.result.now (Ok c.in-Ok.p) c.held.ensures c.in-Ok.ensures c.requires in
    let w = change_fits _ _ _ _ g.O.Order.is_order c.args.from.now s.used s.rows.now s.within c.requires c.in-Ok.p is in
    let a = w.0 in
    let b = w.1 in
    let e = c.rest-q.ensures in
    (omega arith, omega arith)

pub add-requires : goal.add-requires
add-requires g c =
    let s = c.args.self.now in
    let is = searched g.O.Order.stands g.O.Order.located (code_text c.args.from.now.code) s.used s.rows.now c.held.result.now (Err c.in-Err.p) c.held.ensures c.in-Err.ensures c.requires in
    let o = outside _ _ _ _ g.O.Order.is_order c.args.from.now s.used s.rows.now s.within c.requires c.in-Err.p is in
    let r = c.room.ensures in
    (o, omega arith)

pub returns-in-Ok : goal.returns-in-Ok
returns-in-Ok g c =
    let r = c.args.from.now in
    let s = c.args.self.now in
    let t = c.change.new.self in
    let p = c.in-Ok.p in
    let o = g.O.Order.is_order in
    let is = searched g.O.Order.stands g.O.Order.located (code_text r.code) s.used s.rows.now c.held.result.now (Ok p) c.held.ensures c.in-Ok.ensures c.requires in
    let rows = c.change.ensures.rows ∙ ap (λ q. renewed s.rows.now p (q + 1) r) c.rest-q.ensures in
    record {
      puts = landed (Puts (g.O.Order.after r s.used s.rows.now) r s.used s.rows.now true) t.used s.used t.rows.now _ c.change.ensures.used rows (puts_changed _ _ _ _ o r s.used s.rows.now s.within c.requires p is);
      wrote = landed (λ m ys. Writes (entry_of r) (held_in s.used s.rows.now) (room_in s.used s.rows.now) true (held_in m ys) (room_in m ys)) t.used s.used t.rows.now _ c.change.ensures.used rows (writes_changed _ _ _ _ o r s.used s.rows.now s.within c.requires p is);
      stands = landed (λ m ys. g.O.Order.stands (held_in m ys) ≡ true) t.used s.used t.rows.now _ c.change.ensures.used rows (stands_changed _ _ _ _ o r s.used s.rows.now s.within c.requires p is);
      refused = λ q. absurd (true≢false q);
      lender = c.change.ensures.lender;
    }

pub returns-else-room-eq0 : goal.returns-else-room-eq0
returns-else-room-eq0 g c =
    let r = c.args.from.now in
    let s = c.args.self.now in
    let t = c.add.new.self in
    let p = c.in-Err.p in
    let o = g.O.Order.is_order in
    let is = searched g.O.Order.stands g.O.Order.located (code_text r.code) s.used s.rows.now c.held.result.now (Err p) c.held.ensures c.in-Err.ensures c.requires in
    let room = c.room.ensures in
    let lt : s.used < limit (length s.rows.now) = omega arith in
    record {
      puts = landed (Puts (g.O.Order.after r s.used s.rows.now) r s.used s.rows.now true) t.used (s.used + 1) t.rows.now _ c.add.ensures.used c.add.ensures.rows (puts_added _ _ _ _ o r s.used s.rows.now s.within c.requires p is lt);
      wrote = landed (λ m ys. Writes (entry_of r) (held_in s.used s.rows.now) (room_in s.used s.rows.now) true (held_in m ys) (room_in m ys)) t.used (s.used + 1) t.rows.now _ c.add.ensures.used c.add.ensures.rows (writes_added _ _ _ _ o r s.used s.rows.now s.within c.requires p is lt);
      stands = landed (λ m ys. g.O.Order.stands (held_in m ys) ≡ true) t.used (s.used + 1) t.rows.now _ c.add.ensures.used c.add.ensures.rows (stands_added _ _ _ _ o r s.used s.rows.now s.within c.requires p is lt);
      refused = λ q. absurd (true≢false q);
      lender = c.add.ensures.lender;
    }
