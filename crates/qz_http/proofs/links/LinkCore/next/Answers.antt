use Rattle.std.proofs.Common.{◌+◌, ◌∙◌, ap, drop, subst, sym}
use Rattle.std.proofs.lemmas.List.{drop-drop}
use Rattle.qz_http.specs.Links.{Gives, Link, ended}
use Rattle.qz_http.specs.declared.items.Item.TheVariants as item
use Rattle.qz_http.proofs.LinkLemmas.{gives_stays, gives_takes}
use Rattle.qz_http.proofs.links.LinkCore.next.Goals as goal

pub returns-in-Some-clause-given : goal.returns-in-Some-clause-given
returns-in-Some-clause-given c =
    let self = c.self.inside in
    let link : Link = record { left = drop self.taken self.bytes.items; more = self.more; finished = self.finished; over = self.over; route = self.route } in
    let given : Gives link (item.Over c.in-Some.end) link = ended c.in-Some.end c.in-Some.is in
    subst (λ l. Gives l (item.Over c.in-Some.end) l) c.self.view_is given

pub returns-in-Stays-clause-given : goal.returns-in-Stays-clause-given
returns-in-Stays-clause-given c =
    let self = c.self.inside in
    let link : Link = record { left = drop self.taken self.bytes.items; more = self.more; finished = self.finished; over = self.over; route = self.route } in
    subst (λ l. Gives l c.in-Stays.item link) c.self.view_is
    (gives_stays link c.split_at.result.1.now c.in_ok-item.field-0 c.in-Stays.item (c.split_at.ensures.back ∙ ap (λ b. drop self.taken b) c.deref.ensures.value) c.in_default.is c.in_ok-item.ensures.steps c.in-Stays.is)

pub returns-in-Takes-clause-given : goal.returns-in-Takes-clause-given
returns-in-Takes-clause-given c =
    let self = c.self.inside in
    let taken = c.in-Takes in
    let link : Link = record { left = drop self.taken self.bytes.items; more = self.more; finished = self.finished; over = self.over; route = self.route } in
    let after : Link = record { left = drop (self.taken + taken.len) self.bytes.items; more = c.saturating_sub-self-inside.result; finished = self.finished; over = c.end_after-self-inside.result; route = taken.route } in
    subst (λ l. Gives l taken.item after) c.self.view_is
    (gives_takes link c.split_at.result.1.now (drop (self.taken + taken.len) self.bytes.items) c.in_ok-item.field-0 taken.item taken.len taken.route taken.closes _ _ (c.split_at.ensures.back ∙ ap (λ b. drop self.taken b) c.deref.ensures.value) c.in_default.is c.in_ok-item.ensures.steps taken.is (sym (drop-drop taken.len self.taken self.bytes.items)) c.saturating_sub-self-inside.ensures c.end_after-self-inside.ensures)
