pub mod RecordTrips
