use Rattle.std.proofs.Common.{◌≡◌, List, true, length, map, take, refl, ap, ◌∙◌, arith}
use Rattle.rq_exchange.proofs.Words.{length-map, length-take, length-append, all_lawful, lawful_front, record_of}
use Rattle.rq_exchange.proofs.Words.{version_of}
use Rattle.rq_catalog.proofs.Fronts.{parted, kept_is, analysis_of_front, analysis_is_wider, lawful_in_two}
use Rattle.rq_exchange.proofs.replays.front_redone.Goals.{After-lawful-count}
use Rattle.rq_model.specs.Records as model
use Rattle.rq_exchange.proofs.replays.front_redone.Goals as goal

abbrev front : (g : _) → After-lawful-count g → List model.Record
front g c = lawful_front (version_of c.args.version) c.args.state.now (map record_of c.args.records.now)

many : (g : _) (c : After-lawful-count g) → c.lawful-count.result ≡ length (front g c)
many g c = c.lawful-count.ensures ∙ c.in_ok-analysis.ensures.analysis.lawful

first : (g : _) (c : After-lawful-count g)
    → map record_of (take c.lawful-count.result c.args.records.now) ≡ front g c
first g c = kept_is (version_of c.args.version) c.args.state.now c.args.records.now _ _ refl (many g c)

lawful : (g : _) (c : After-lawful-count g)
    → all_lawful (version_of c.args.version) c.args.state.now (front g c) ≡ true
lawful g c = (parted (version_of c.args.version) c.args.state.now (map record_of c.args.records.now)).lawful

pub slice_bounds-lawful-end : goal.slice_bounds-lawful-end
slice_bounds-lawful-end g c =
    let p = parted (version_of c.args.version) c.args.state.now (map record_of c.args.records.now) in
    let parts = length-append (front g c) p.more in
    let some = length-take c.lawful-count.result c.args.records.now in
    omega (arith, many g c, ap length p.whole, length-map c.args.records.now record_of)

-- a replay wants what version 2 says of them
pub replay_analysed-requires-clause-lawful : goal.replay_analysed-requires-clause-lawful
replay_analysed-requires-clause-lawful g c = λ κs within.
    let d = (goal.at.replay_analysed-requires-clause-lawful g c).After-lawful-count in
    rw (first g d) (lawful_in_two c.versions.ensures.two (version_of c.args.version) c.args.state.now (front g d)
    (lawful g d))

pub replay_analysed-requires-clause-analysis : goal.replay_analysed-requires-clause-analysis
replay_analysed-requires-clause-analysis g c = λ κs within.
    let d = (goal.at.replay_analysed-requires-clause-analysis g c).After-lawful-count in
    rw (first g d) (analysis_is_wider c.versions.ensures.two (version_of c.args.version) _ _ _ (lawful g d)
    (analysis_of_front _ _ _ _ c.in_ok-analysis.ensures.analysis))

pub returns-clause-redone : goal.returns-clause-redone
returns-clause-redone g c =
    let d = (goal.at.returns-clause-redone g c).After-lawful-count in
    record { count = many g d; state = rw (first g d) at c.in_ok-state.ensures.state }
