use Rattle.std.proofs.Common.{◌≡◌, sym, ◌∙◌}
use Rattle.std.specs.Prelude.{Some}
use Rattle.records.specs.Columns.{order_of, load_of}
use Rattle.records.proofs.RequestForms.{only_planet, only_system, only_build, only_research, only_yard, only_set, only_send, only_join, only_recall}
use Rattle.records.proofs.requests.request_of.Goals as goal

pub returns-in-1 : goal.returns-in-1
returns-in-1 c = λ req form order_is load_is.
    only_planet (λ r. c.args.order.now ≡ order_of r → c.args.load.now ≡ load_of r → c.planet.result ≡ Some r) (λ at. λ order_same load_same. c.planet.ensures at order_same) req (sym form ∙ c.in-1.is) order_is load_is

pub returns-in-4 : goal.returns-in-4
returns-in-4 c = λ req form order_is load_is.
    only_system (λ r. c.args.order.now ≡ order_of r → c.args.load.now ≡ load_of r → c.system_of.result ≡ Some r) (λ at. λ order_same load_same. c.system_of.ensures at order_same) req (sym form ∙ c.in-4.is) order_is load_is

pub returns-in-5 : goal.returns-in-5
returns-in-5 c = λ req form order_is load_is.
    only_build (λ r. c.args.order.now ≡ order_of r → c.args.load.now ≡ load_of r → c.build.result ≡ Some r) (λ at building. λ order_same load_same. c.build.ensures at building order_same) req (sym form ∙ c.in-5.is) order_is load_is

pub returns-in-6 : goal.returns-in-6
returns-in-6 c = λ req form order_is load_is.
    only_research (λ r. c.args.order.now ≡ order_of r → c.args.load.now ≡ load_of r → c.research.result ≡ Some r) (λ at technology. λ order_same load_same. c.research.ensures at technology order_same) req (sym form ∙ c.in-6.is) order_is load_is

pub returns-in-7 : goal.returns-in-7
returns-in-7 c = λ req form order_is load_is.
    only_yard (λ r. c.args.order.now ≡ order_of r → c.args.load.now ≡ load_of r → c.yard.result ≡ Some r) (λ at unit count. λ order_same load_same. c.yard.ensures at unit count order_same) req (sym form ∙ c.in-7.is) order_is load_is

pub returns-in-8 : goal.returns-in-8
returns-in-8 c = λ req form order_is load_is.
    only_set (λ r. c.args.order.now ≡ order_of r → c.args.load.now ≡ load_of r → c.set.result ≡ Some r) (λ at work tenths. λ order_same load_same. c.set.ensures at work tenths order_same) req (sym form ∙ c.in-8.is) order_is load_is

pub returns-in-9 : goal.returns-in-9
returns-in-9 c = λ req form order_is load_is.
    only_send (λ r. c.args.order.now ≡ order_of r → c.args.load.now ≡ load_of r → c.send.result ≡ Some r) (λ from to mission setting ships cargo. λ order_same load_same. c.send.ensures from to mission setting ships cargo order_same load_same) req (sym form ∙ c.in-9.is) order_is load_is

pub returns-in-10 : goal.returns-in-10
returns-in-10 c = λ req form order_is load_is.
    only_join (λ r. c.args.order.now ≡ order_of r → c.args.load.now ≡ load_of r → c.join.result ≡ Some r) (λ fleet from to setting ships cargo. λ order_same load_same. c.join.ensures fleet from to setting ships cargo order_same load_same) req (sym form ∙ c.in-10.is) order_is load_is

pub returns-in-11 : goal.returns-in-11
returns-in-11 c = λ req form order_is load_is.
    only_recall (λ r. c.args.order.now ≡ order_of r → c.args.load.now ≡ load_of r → c.recall.result ≡ Some r) (λ fleet. λ order_same load_same. c.recall.ensures fleet order_same) req (sym form ∙ c.in-11.is) order_is load_is
