use Rattle.std.proofs.Common.{◌≡◌, ◌≤◌, ◌∙◌, length, ap, sym, subst, refl}
use Rattle.memchr.specs.Find.{Nowhere, Passes, is_byte}
use Rattle.tcl_chan.proofs.Search.{found_at, found_none, nowhere_grown, grown_length}
use Rattle.tcl_chan.proofs.Takes.{stays_on}
use Rattle.tcl_chan.proofs.reading.Reader.line_end.Goals as goal

pub returns-in-Some-clause-found : goal.returns-in-Some-clause-found
returns-in-Some-clause-found g c =
    found_at (is_byte 10) c.search.self.held c.search.searched c.bytes-held.result.now _ c.in-Some.place c.bytes-held.ensures refl
    c.search.invariant.3 c.search.invariant.4 c.in-Some.ensures

pub returns-then-self-clause-found : goal.returns-then-self-clause-found
returns-then-self-clause-found g c =
    found_none (is_byte 10) c.search.self.held c.search.searched c.bytes-held.result.now _ c.bytes-held.ensures refl
    c.search.invariant.3 c.search.invariant.4 c.in_default.ensures

pub search-preserved : goal.search-preserved
search-preserved g c =
    let filled = c.in_ok-fill.ensures in
    let so = c.search.invariant in
    let held = c.search.self.held in
    let now = c.fill.new.self.held in
    let size : length held ≡ length c.bytes-held.result.now = ap length (sym c.bytes-held.ensures) in
    let none = found_none (is_byte 10) held c.search.searched c.bytes-held.result.now _ c.bytes-held.ensures refl so.3 so.4 c.in_default.ensures in (
      filled.met_end ∙ so.0,
      filled.failures ∙ so.1,
      stays_on _ _ _ so.2 filled.unread,
      subst (λ n. n ≤ length now) size (grown_length held now c.fill.new.self.ended filled.grew),
      subst (λ n. Nowhere (Passes (is_byte 10) now) 0 n) size (nowhere_grown (is_byte 10) held now c.fill.new.self.ended filled.grew none),
    )
